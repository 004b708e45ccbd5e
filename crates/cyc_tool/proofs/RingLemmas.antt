-- The ring arbiter's texts, taken for files.
use Rattle.std.proofs.Common.{◌≡◌, ◌⊎◌, ℕ, List, Ok, sym, ap, subst, ◌∙◌, inl, inr}
use Rattle.cyc_tool.proofs.Common.{Arena, ComesOf, netlist_of, Parts, IsNetlist, IsDecided, Plan, Decides, Demonstrates, Outcome, no_memory}
use Rattle.care_sets.specs.Care.{CareSet}
use Rattle.parsed_files.specs.CareFiles.{care_of}
use Rattle.maker.specs.Ring.{ring_text, care_text}
use Rattle.plain_commands.specs.Plans.{ring_care_file, ring_deciding, ring_deciding_on, ring_decision, ring_file}
use Rattle.plain_commands.specs.Reading.{FollowsStill, IsStoppedBy}
use Rattle.plain_commands.proofs.PlanLemmas.{follows_still, stopped, used}

abbrev decides : ℕ → Parts → CareSet → Plan
decides cells net care = Decides (ring_decision net care) (Demonstrates cells)

-- ---- the netlist

pub ring_stops : (cells : ℕ) (text : List ℕ) (nodes : Arena) (end : Outcome) → text ≡ ring_text cells → IsStoppedBy ring_file (netlist_of text) end
    → FollowsStill (ComesOf nodes) (ring_deciding cells) end
ring_stops cells text nodes end is stop =
    let P : List ℕ → Type 0 = λ t. IsStoppedBy ring_file (netlist_of t) end in
    record { follows = λ files counts. stopped (ComesOf nodes) ring_file (netlist_of (ring_text cells)) (ring_deciding_on cells) files counts end (subst P is stop) }

pub ring_goes_on : (cells : ℕ) (text : List ℕ) (net : Parts) (nodes : Arena) (end : Outcome) → text ≡ ring_text cells → netlist_of text ≡ Ok net
    → FollowsStill (ComesOf nodes) (ring_deciding_on cells net) end → FollowsStill (ComesOf nodes) (ring_deciding cells) end
ring_goes_on cells text net nodes end is good follows = record {
  follows = λ files counts. used (ComesOf nodes) ring_file (netlist_of (ring_text cells)) net (ring_deciding_on cells) files counts counts end (ap netlist_of (sym is) ∙ good) (follows.follows files counts);
}

-- ---- its care set

pub ring_care_stops : (cells : ℕ) (care : List ℕ) (net : Parts) (nodes : Arena) (end : Outcome) → care ≡ care_text cells
    → IsStoppedBy ring_care_file (care_of net care) end → FollowsStill (ComesOf nodes) (ring_deciding_on cells net) end
ring_care_stops cells care net nodes end is stop =
    let P : List ℕ → Type 0 = λ t. IsStoppedBy ring_care_file (care_of net t) end in
    record { follows = λ files counts. stopped (ComesOf nodes) ring_care_file (care_of net (care_text cells)) (decides cells net) files counts end (subst P is stop) }

pub ring_ends : (cells : ℕ) (care : List ℕ) (net : Parts) (set : CareSet) (nodes : Arena) (end : Outcome) → care ≡ care_text cells → care_of net care ≡ Ok set
    → IsNetlist net → IsDecided (ring_decision net set) (Demonstrates cells) nodes end ⊎ (end ≡ no_memory) → FollowsStill (ComesOf nodes) (ring_deciding_on cells net) end
ring_ends cells care net set nodes end is good valid ends = record {
  follows = λ files counts.
      used (ComesOf nodes) ring_care_file (care_of net (care_text cells)) set (decides cells net) files counts counts end (ap (care_of net) (sym is) ∙ good)
      (follows_still (ComesOf nodes) files counts end (decides cells net set) (elim ends [ inl decided ↦ inl (valid, decided) | inr lacks ↦ inr lacks ]));
}
