-- A function has at least as many nodes as it has with some first bits fixed.
use Rattle.std.proofs.Common.{◌≡◌, ℕ, ◌≤◌, Bool, true, List, [], ◌∷◌, refl, arith}
use Rattle.std.proofs.lemmas.Map.Made.{is_member-Decides}
use Rattle.std.specs.Set.{is_member, unique_keys}
use Rattle.diagram_decision.proofs.Common.{nodes}
use Rattle.bdd_store.specs.Subfunctions.{fixed, table, IsPart}
use Rattle.bdd_store.proofs.PigeonholeLemmas.{table_eq, table_decides, counted, counted-part}
use Rattle.bdd_store.proofs.SubfunctionLemmas.{IsPart-chain}
use Rattle.dual_rail.proofs.SizeLemmas.{nodes-at_most}

keys-member : (ts : List (List Bool)) (q : List Bool) → is_member table_eq ts q ≡ true → is_member table_eq (unique_keys table_eq ts) q ≡ true
keys-member [] q h = h
keys-member (t ∷ ts) q h = grind (arith, keys-member ts q, table_decides q t)

pub nodes-part : (vars : ℕ) (f g : List Bool → Bool) → IsPart vars f g → nodes vars g ≤ nodes vars f
unfolding nodes
nodes-part vars f g part =
    nodes-at_most vars g (unique_keys table_eq (counted vars f)) (λ p short varies.
    (is_member-Decides table_decides (unique_keys table_eq (counted vars f)) (table vars (fixed g p))).0
    (keys-member (counted vars f) (table vars (fixed g p))
    (counted-part vars f (fixed g p) (IsPart-chain part (record { first = p; short = short; same = λ bits long. refl })) varies)))
