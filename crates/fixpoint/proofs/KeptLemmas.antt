-- Rails under roots stay what they were while roots come to them and stores are swept.
use Rattle.std.proofs.Common.{◌≡◌, ℕ, ◌+◌, ◌<◌, ◌≤◌, Bool, false, List, [], ◌∷◌, ◌++◌, length, map, take, get_or, refl, sym, ap, ap₂, ◌∙◌, subst, arith, Option, Some, IsSome, Result, Ok, IsErrAnd}
use Rattle.std.specs.Option.{unwrap_or}
use Rattle.fixpoint.proofs.Common.{All, get_or-map, length-map, take_more, All-map, All-push, StoreFault, Node, Arena, den, IsNodeOf, KeepsNodes, AddsWithin, NoOtherCause, IsLawful, Trit, Rails, AreRailsOf, trit_of, value_of, map_agree, KeptRails, rails_under, values_under, AreKept, GainsRoots, RootsStay}
use Rattle.std.proofs.Math.Path.{fun_ext}
use Rattle.std.proofs.lemmas.List.{map_push}
use Rattle.cyc_base.proofs.ListLemmas.{map-map}
use Rattle.bdd_store.specs.declared.fault.StoreFault.TheVariants.{Full, Memory}
use Rattle.bdd_store.specs.declared.node.Entry.{Entry}
use Rattle.bdd_store.specs.declared.root.Root.{Root}
use Rattle.bdd_store.specs.Arena.{root_at, constant, node_value}
use Rattle.bdd_store.specs.Sweeping.{KeepsRoots}
use Rattle.fixpoint.specs.Kept.{node_under, IsRootStill}

-- what holds of the images of a list
pub All-mapped : {X Y : Type 0} (P : Y → Type 0) (f : X → Y) (xs : List X) → All P (map f xs) → All (λ x. P (f x)) xs
All-mapped P f xs all k d less = subst P (get_or-map f xs k d (f d) less) (all k (f d) (let len = length-map xs f in omega (arith, less, len)))

is-some : {T : Type 0} (o : Option T) → IsSome o → (x : T) × (o ≡ Some x)
is-some o some = grind arith

under-is : (a : Arena) (root : Root) (n : Node) → root_at a root.key ≡ Some n → node_under a root ≡ n
under-is a root n is = ap (λ (o : Option Node). unwrap_or o (constant false)) is

has-node : (a : Arena) (root : Root) → IsSome (root_at a root.key) → root_at a root.key ≡ Some (node_under a root)
has-node a root some = let x = is-some (root_at a root.key) some in x.1 ∙ ap Some (sym (under-is a root x.0 x.1))

pub under-node : (a : Arena) → IsLawful a → (root : Root) → IsSome (root_at a root.key) → IsNodeOf a (node_under a root)
under-node a laws root some = laws.roots root.key (node_under a root) (has-node a root some)

-- ---- roots that come

pub GainsRoots-refl : (a : Arena) → GainsRoots a a
GainsRoots-refl a = record { vars = refl; limit = refl; entries = refl; roots = λ key n is. is }

pub GainsRoots_chain : {s t u : Arena} → GainsRoots s t → GainsRoots t u → GainsRoots s u
GainsRoots_chain g h = grind arith

den-gained : {s t : Arena} → GainsRoots s t → (n : Node) (bits : List Bool) → den t n bits ≡ den s n bits
den-gained g n bits = ap (λ (es : List Entry). node_value es n bits) g.entries

pub value_of-gained : {s t : Arena} → GainsRoots s t → (r : Rails) (bits : List Bool) → value_of t r bits ≡ value_of s r bits
value_of-gained g r bits = ap₂ trit_of (den-gained g r.one bits) (den-gained g r.zero bits)

pub AreRailsOf-gained : {s t : Arena} → GainsRoots s t → (r : Rails) → AreRailsOf s r → AreRailsOf t r
AreRailsOf-gained g r is = grind arith

pub All-rails-gained : {s t : Arena} → GainsRoots s t → (rails : List Rails) → All (AreRailsOf s) rails → All (AreRailsOf t) rails
All-rails-gained g rails all k d less = AreRailsOf-gained g (get_or rails k d) (all k d less)

pub AreKept-gained : {s t : Arena} → GainsRoots s t → (kept : KeptRails) → AreKept s kept → AreKept t kept
AreKept-gained g kept is = grind arith

pub All-kept-gained : {s t : Arena} → GainsRoots s t → (kept : List KeptRails) → All (AreKept s) kept → All (AreKept t) kept
All-kept-gained g kept all k d less = AreKept-gained g (get_or kept k d) (all k d less)

pub rails_under-gained : {s t : Arena} → GainsRoots s t → (kept : KeptRails) → AreKept s kept → rails_under t kept ≡ rails_under s kept
rails_under-gained {s} {t} g kept is = grind arith

pub all_under-gained : {s t : Arena} → GainsRoots s t → (kept : List KeptRails) → All (AreKept s) kept → map (rails_under t) kept ≡ map (rails_under s) kept
all_under-gained {s} {t} g kept all = map_agree (rails_under t) (rails_under s) kept (λ k d less. rails_under-gained g (get_or kept k d) (all k d less))

-- one more of a list is kept, where those before it stay kept and what they are
pub more-kept : {T U : Type 0} {Was Is : T → Type 0} {was is : T → U} (items : List U) (kept : List T) (i : ℕ) (made : T) (none : U) → ((x : T) → Was x → Is x × (is x ≡ was x)) → i < length items →
    All Was kept → map was kept ≡ take i items → Is made → is made ≡ get_or items i none → All Is (kept ++ made ∷ []) × (map is (kept ++ made ∷ []) ≡ take (i + 1) items)
more-kept {Was = Was} {Is = Is} {was = was} {is = is} items kept i made none stays inside all same made_kept made_is = grind (arith, All-push Is kept made, map_push is kept made, map_agree is was kept, take_more items i none inside)

-- ---- roots that stay

pub RootsStay-chain : {s t u : Arena} → RootsStay s t → RootsStay t u → RootsStay s u
RootsStay-chain r q = record {
  vars = q.vars ∙ r.vars;
  limit = q.limit ∙ r.limit;
  each = λ key n is.
      let one = r.each key n is in
      let two = q.each key one.node one.root in
      record { node = two.node; root = two.root; is_node = two.is_node; function = λ bits. two.function bits ∙ one.function bits };
}

-- while nodes are kept, and roots come then
pub RootsStay-gained : {s t u : Arena} → IsLawful s → KeepsNodes s t → GainsRoots t u → RootsStay s u
RootsStay-gained {s} {t} {u} laws keeps g = grind arith

pub RootsStay-kept : {s t : Arena} → IsLawful s → KeepsNodes s t → RootsStay s t
RootsStay-kept {s} {t} laws keeps = RootsStay-gained laws keeps (GainsRoots-refl t)

-- while the store is swept
pub RootsStay-swept : {s t : Arena} → IsLawful t → KeepsRoots s t → RootsStay s t
RootsStay-swept {s} {t} laws keeps = grind arith

module _ {s t : Arena} (stay : RootsStay s t) where
  still : (root : Root) → IsSome (root_at s root.key) → IsRootStill s t root.key (node_under s root)
  still root some = stay.each root.key (node_under s root) (has-node s root some)

  den-stays : (root : Root) → IsSome (root_at s root.key) → (bits : List Bool) → den t (node_under t root) bits ≡ den s (node_under s root) bits
  den-stays root some bits = grind (arith, still root some, under-is t root)

  node-stays : (root : Root) → IsSome (root_at s root.key) → IsNodeOf t (node_under t root)
  node-stays root some = let at = still root some in subst (IsNodeOf t) (sym (under-is t root at.node at.root)) at.is_node

  key-stays : (root : Root) → IsSome (root_at s root.key) → IsSome (root_at t root.key)
  key-stays root some = let at = still root some in subst IsSome (sym at.root) refl

  pub AreKept-stay : (kept : KeptRails) → AreKept s kept → AreKept t kept
  AreKept-stay kept is = record { one = key-stays kept.one is.one; zero = key-stays kept.zero is.zero }

  pub All-kept-stay : (kept : List KeptRails) → All (AreKept s) kept → All (AreKept t) kept
  All-kept-stay kept all k d less = AreKept-stay (get_or kept k d) (all k d less)

  pub value-stays : (kept : KeptRails) → AreKept s kept → (bits : List Bool) → value_of t (rails_under t kept) bits ≡ value_of s (rails_under s kept) bits
  value-stays kept is bits = ap₂ trit_of (den-stays kept.one is.one bits) (den-stays kept.zero is.zero bits)

  pub rails-stay : (kept : KeptRails) → AreKept s kept → AreRailsOf s (rails_under s kept) → AreRailsOf t (rails_under t kept)
  rails-stay kept is proper = grind (arith, node-stays kept.one is.one, node-stays kept.zero is.zero, den-stays kept.one is.one, den-stays kept.zero is.zero)

  pub values-stay : (kept : List KeptRails) → All (AreKept s) kept → values_under t kept ≡ values_under s kept
  values-stay kept all = fun_ext (λ bits.
      map-map {C = Trit} (λ r. value_of t r bits) (rails_under t) kept
      ∙ map_agree (λ (x : KeptRails). value_of t (rails_under t x) bits) (λ (x : KeptRails). value_of s (rails_under s x) bits) kept (λ k d less. value-stays (get_or kept k d) (all k d less) bits)
      ∙ sym (map-map {C = Trit} (λ r. value_of s r bits) (rails_under s) kept))

  pub All-rails-stay : (kept : List KeptRails) → All (AreKept s) kept → All (AreRailsOf s) (map (rails_under s) kept) → All (AreRailsOf t) (map (rails_under t) kept)
  All-rails-stay kept all proper =
      All-map (AreRailsOf t) (rails_under t) kept (λ k d less. rails-stay (get_or kept k d) (all k d less) (All-mapped (AreRailsOf s) (rails_under s) kept proper k d less))

-- while nodes are kept, so are the roots
module _ {s t : Arena} (keeps : KeepsNodes s t) where
  root-same : (key : ℕ) → root_at t key ≡ root_at s key
  root-same key = ap (λ (roots : List (Option Node)). root_at (record { vars = t.vars; limit = t.limit; entries = t.entries; roots = roots; answers = t.answers }) key) keeps.roots

  pub AreKept-same : (kept : KeptRails) → AreKept s kept → AreKept t kept
  AreKept-same kept is = record { one = subst IsSome (sym (root-same kept.one.key)) is.one; zero = subst IsSome (sym (root-same kept.zero.key)) is.zero }

  pub rails_under-same : rails_under t ≡ rails_under s
  rails_under-same = grind arith

-- ---- what a call adds

-- a lack of memory after it is no refusal
module _ {T U : Type 0} {r : Result U StoreFault} {q : Result T StoreFault} {s t u : Arena} {cause other bounds : ℕ → Type 0} {count : ℕ} where
  pub adds_lacking : IsErrAnd q (λ x. x ≡ Memory) → length u.entries ≤ length t.entries → AddsWithin r s t cause bounds count → AddsWithin q s u other bounds count
  adds_lacking lacks fewer a = record { added = λ w b. omega (arith, a.added w b, fewer); full = λ w b is_full. let same : Full ≡ Memory = rw is_full at lacks in absurd cc }

-- a call that makes nothing
pub adds_nothing : {T : Type 0} {q : Result T StoreFault} {s : Arena} {cause bounds : ℕ → Type 0} {count : ℕ} → IsErrAnd q (λ x. x ≡ Memory) → AddsWithin q s s cause bounds count
adds_nothing lacks = record { added = λ w b. omega arith; full = λ w b is_full. let same : Full ≡ Memory = rw is_full at lacks in absurd cc }

-- what a loop has added so far
abbrev pub HasAdded : Arena → Arena → (ℕ → Type 0) → ℕ → Type 0
HasAdded old new bounds count = AddsWithin {T = Unit} (Ok tt) old new NoOtherCause bounds count

pub nothing_added : {s : Arena} {bounds : ℕ → Type 0} {count : ℕ} → HasAdded s s bounds count
nothing_added = record { added = λ w b. omega arith; full = λ w b e. absurd cc }
