-- Wires are read one after another: what was found in some of them, and in those that are left.
use Rattle.std.proofs.Common.{◌≡◌, ℕ, List, [], ◌++◌, sym, ap, ◌∙◌, Some, None, arith}
use Rattle.std.proofs.lemmas.List.Folds.{find-append}
use Rattle.cyc_base.proofs.ListLemmas.{option_or-None, option_map-or}
use Rattle.flatten.proofs.Common.{find, option_or, Option, FlatFault, undriven_among, AreRead}
use Rattle.flatten.specs.declared.fault.FlatFault.TheVariants.{Undriven}
use Rattle.flatten.specs.declared.link.Drivers.{Drivers as DriverTable}
use Rattle.flatten.specs.Drivers.{is_unread}
use Rattle.flatten.proofs.Gathering.{some_or, none_or_is}

or_both : {X : Type 0} (o p q : Option X) → option_or (option_or o p) q ≡ option_or o (option_or p q)
or_both o p q = grind arith

-- of all these names, those that are left come to what all come to
pub record IsLeft (table : DriverTable) (all left : List (List ℕ)) (before now : Option (List ℕ)) : Type 0 where
  pub driven : undriven_among table left ≡ undriven_among table all
  pub clock : option_or now (find (is_unread table) left) ≡ option_or before (find (is_unread table) all)

module _ (table : DriverTable) where
  undriven-append : (xs ys : List (List ℕ)) → undriven_among table (xs ++ ys) ≡ option_or (undriven_among table xs) (undriven_among table ys)
  undriven-append xs ys = grind (arith, find-append, option_map-or Undriven)

  -- in two parts
  pub undriven_front : (xs ys : List (List ℕ)) (fault : FlatFault) → undriven_among table xs ≡ Some fault → undriven_among table (xs ++ ys) ≡ Some fault
  undriven_front xs ys fault e = undriven-append xs ys ∙ some_or (undriven_among table xs) (undriven_among table ys) fault e

  pub undriven_behind : (xs ys : List (List ℕ)) → undriven_among table xs ≡ None → undriven_among table (xs ++ ys) ≡ undriven_among table ys
  undriven_behind xs ys e = undriven-append xs ys ∙ none_or_is (undriven_among table xs) (undriven_among table ys) e

  clock_behind : (xs ys : List (List ℕ)) (m n : Option (List ℕ)) → n ≡ option_or m (find (is_unread table) xs) → option_or n (find (is_unread table) ys) ≡ option_or m (find (is_unread table) (xs ++ ys))
  clock_behind xs ys m n e = grind (arith, or_both m (find (is_unread table) xs) (find (is_unread table) ys), find-append (is_unread table) xs ys)

  pub read_both : (xs ys : List (List ℕ)) (before m after : Option (List ℕ)) → AreRead table xs before m → AreRead table ys m after → AreRead table (xs ++ ys) before after
  read_both xs ys before m after front behind = grind (arith, undriven_behind xs ys front.driven, clock_behind xs ys before m front.clock)

  -- in a loop: behind some more, at the first fault, and in the end
  pub fewer_left : (all here xs left : List (List ℕ)) (before m n : Option (List ℕ)) → here ≡ xs ++ left → IsLeft table all here before m → AreRead table xs m n → IsLeft table all left before n
  fewer_left all here xs left before m n is old read = grind (arith, undriven_behind xs left read.driven, clock_behind xs left m n read.clock)

  pub fault_left : (all here xs left : List (List ℕ)) (before m : Option (List ℕ)) (fault : FlatFault) → here ≡ xs ++ left → IsLeft table all here before m → undriven_among table xs ≡ Some fault → undriven_among table all ≡ Some fault
  fault_left all here xs left before m fault is old e = sym old.driven ∙ ap (undriven_among table) is ∙ undriven_front xs left fault e

  pub none_left : (all : List (List ℕ)) (before after : Option (List ℕ)) → IsLeft table all [] before after → AreRead table all before after
  none_left all before after old = record { driven = sym old.driven; clock = sym (option_or-None after) ∙ old.clock }
