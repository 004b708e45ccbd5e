-- What came of reading one file.
use Rattle.std.proofs.Common.{◌≡◌, ◌⊎◌, inl, inr, ℕ, ◌<◌, ◌≤◌, List, [], ◌∷◌, length, Some, None, Ok, Err, sym, ap, subst}
use Rattle.plain_commands.proofs.Common.{IfOk, Option, Parts, IsNetlist, ShelfCall, EndsBy, NothingDecided, FollowsAlone, IsErrorOf, netlist_of, Plan, Reads, GoesOn, StopsIn, Outcome, no_memory}
use Rattle.std.specs.declared.result.Result.{Result}
use Rattle.cyc_base.specs.declared.limits.TheConstants.{MAX_FILE_BYTES}
use Rattle.cyc_io.specs.Faults.{ChangesCountOf}
use Rattle.cyc_io.specs.Files.{IsFile}
use Rattle.plain_commands.specs.Shelves.{ReadFailed, IsSound}
use Rattle.parsed_files.specs.Faults.{Fault, too_long}
use Rattle.plain_commands.specs.Plans.{Role, Netlist, using}
use Rattle.plain_commands.specs.Reading.{GaveNone, GaveText, Lacks, LeadsTo, StopsAt, TooLong, Unread}
use Rattle.plain_commands.specs.Texts.{has_fault, read_failed}

-- what a netlist file means is sound, whether it is a netlist or a fault
pub sound_netlist : (bytes : List ℕ) (net : Parts) → netlist_of bytes ≡ Ok net → IsNetlist net → IsSound Netlist bytes
sound_netlist bytes net is valid = let P : Result Parts (Option Fault) → Type 0 = λ r. IfOk r IsNetlist in subst P (sym is) valid

pub sound_fault : (bytes : List ℕ) (fault : Fault) → netlist_of bytes ≡ Err (Some fault) → IsSound Netlist bytes
sound_fault bytes fault is = let P : Result Parts (Option Fault) → Type 0 = λ r. IfOk r IsNetlist in subst P (sym is) tt

-- a file whose bytes mean something leads on
leads_file : {T : Type 0} (role : Role) (meaning : List ℕ → Result T (Option Fault)) (name bytes : List ℕ) (shelf : ShelfCall) (value : T) (next : T → Plan)
    → IsSound role bytes → GaveText shelf name bytes → ChangesCountOf name shelf.before shelf.now → meaning bytes ≡ Ok value
    → LeadsTo (Reads role name (λ text. using name (meaning text) next)) (next value) shelf
leads_file role meaning name bytes shelf value next sound gave counts is = record {
  given = bytes ∷ [];
  gave = (gave.is, sound, tt);
  counts = record { later = counts.later; others = λ other differs. counts.others other differs.0 };
  is = ap (λ r. using name r next) is;
}

-- a file that lacks memory, or wasn't read, ends the call before its bytes are given
follows_unread : (role : Role) (name : List ℕ) (next : List ℕ → Plan) (shelf : ShelfCall) (end : Outcome)
    → ChangesCountOf name shelf.before shelf.now → (ReadFailed shelf name × (end ≡ read_failed name)) ⊎ (end ≡ no_memory)
    → FollowsAlone (Reads role name next) shelf end
follows_unread role name next shelf end counts ends = record {
  given = [];
  gave = tt;
  counts = record { later = counts.later; others = λ other differs. counts.others other differs.0 };
  ends = ends;
}

-- and a fault of its bytes behind them
follows_fault : {T : Type 0} (role : Role) (meaning : List ℕ → Result T (Option Fault)) (name bytes : List ℕ) (shelf : ShelfCall) (fault : Fault) (end : Outcome) (next : T → Plan)
    → IsSound role bytes → IsFile shelf.files name bytes → ChangesCountOf name shelf.before shelf.now → meaning bytes ≡ Err (Some fault) → end ≡ has_fault name fault
    → FollowsAlone (Reads role name (λ text. using name (meaning text) next)) shelf end
follows_fault role meaning name bytes shelf fault end next sound gave counts is told = record {
  given = bytes ∷ [];
  gave = (gave, sound, tt);
  counts = record { later = counts.later; others = λ other differs. counts.others other differs.0 };
  ends = inl (subst (EndsBy NothingDecided shelf end) (sym (ap (λ r. using name r next) is)) told);
}

-- both, at an error of the code
follows_error : {T : Type 0} (role : Role) (meaning : List ℕ → Result T (Option Fault)) (name bytes : List ℕ) (shelf : ShelfCall) (error : Option Fault) (end : Outcome) (next : T → Plan)
    → ((fault : Fault) → meaning bytes ≡ Err (Some fault) → IsSound role bytes)
    → GaveText shelf name bytes → ChangesCountOf name shelf.before shelf.now → IsErrorOf (meaning bytes) error → StopsAt name error end
    → FollowsAlone (Reads role name (λ text. using name (meaning text) next)) shelf end
follows_error role meaning name bytes shelf None end next sound gave counts is told =
    follows_unread role name (λ text. using name (meaning text) next) shelf end counts (inr told)
follows_error role meaning name bytes shelf (Some fault) end next sound gave counts is (inl told) =
    follows_fault role meaning name bytes shelf fault end next (sound fault is) gave.is counts is told
follows_error role meaning name bytes shelf (Some fault) end next sound gave counts is (inr told) =
    follows_unread role name (λ text. using name (meaning text) next) shelf end counts (inr told)

-- a file of which no text was given
follows_none : {T : Type 0} (role : Role) (meaning : List ℕ → Result T (Option Fault)) (name : List ℕ) (shelf : ShelfCall) (end : Outcome) (next : T → Plan)
    → ((bytes : List ℕ) (fault : Fault) → meaning bytes ≡ Err (Some fault) → IsSound role bytes)
    → ((bytes : List ℕ) → MAX_FILE_BYTES < length bytes → meaning bytes ≡ Err (Some too_long))
    → GaveNone shelf name end → ChangesCountOf name shelf.before shelf.now
    → FollowsAlone (Reads role name (λ text. using name (meaning text) next)) shelf end
follows_none role meaning name shelf end next sound long (Unread rose told) counts =
    follows_unread role name (λ text. using name (meaning text) next) shelf end counts (inl (rose, told))
follows_none role meaning name shelf end next sound long (TooLong bytes is over told) counts =
    follows_fault role meaning name bytes shelf too_long end next (sound bytes too_long (long bytes over)) is counts (long bytes over) told
follows_none role meaning name shelf end next sound long (Lacks told) counts =
    follows_unread role name (λ text. using name (meaning text) next) shelf end counts (inr told)

-- So it is with each plan that uses the file.
pub file_goes_on : {T : Type 0} (role : Role) (meaning : List ℕ → Result T (Option Fault)) (name bytes : List ℕ) (shelf : ShelfCall) (value : T)
    → IsSound role bytes → GaveText shelf name bytes → ChangesCountOf name shelf.before shelf.now → meaning bytes ≡ Ok value
    → GoesOn (λ next. Reads role name (λ text. using name (meaning text) next)) value shelf
file_goes_on role meaning name bytes shelf value sound gave counts is =
    record { leads = λ next. leads_file role meaning name bytes shelf value next sound gave counts is }

pub error_stops : {T : Type 0} (role : Role) (meaning : List ℕ → Result T (Option Fault)) (name bytes : List ℕ) (shelf : ShelfCall) (error : Option Fault) (end : Outcome)
    → ((fault : Fault) → meaning bytes ≡ Err (Some fault) → IsSound role bytes)
    → GaveText shelf name bytes → ChangesCountOf name shelf.before shelf.now → IsErrorOf (meaning bytes) error → StopsAt name error end
    → StopsIn (λ next. Reads role name (λ text. using name (meaning text) next)) shelf end
error_stops role meaning name bytes shelf error end sound gave counts is stops =
    record { follows = λ next. follows_error role meaning name bytes shelf error end next sound gave counts is stops }

pub none_stops : {T : Type 0} (role : Role) (meaning : List ℕ → Result T (Option Fault)) (name : List ℕ) (shelf : ShelfCall) (end : Outcome)
    → ((bytes : List ℕ) (fault : Fault) → meaning bytes ≡ Err (Some fault) → IsSound role bytes)
    → ((bytes : List ℕ) → MAX_FILE_BYTES < length bytes → meaning bytes ≡ Err (Some too_long))
    → GaveNone shelf name end → ChangesCountOf name shelf.before shelf.now
    → StopsIn (λ next. Reads role name (λ text. using name (meaning text) next)) shelf end
none_stops role meaning name shelf end sound long none counts =
    record { follows = λ next. follows_none role meaning name shelf end next sound long none counts }

-- what is told of a file that wasn't read, or is too long
pub gave_unread : (name : List ℕ) (shelf : ShelfCall) (end : Outcome) → ReadFailed shelf name → end ≡ read_failed name → GaveNone shelf name end
gave_unread name shelf end rose told = Unread rose told

pub gave_too_long : (name : List ℕ) (shelf : ShelfCall) (error : Option Fault) (end : Outcome)
    → (bytes : List ℕ) × (MAX_FILE_BYTES < length bytes) × IsFile shelf.files name bytes → error ≡ Some too_long → StopsAt name error end
    → GaveNone shelf name end
gave_too_long name shelf error end (bytes, over, file) is stops =
    let P : Option Fault → Type 0 = λ e. StopsAt name e end in
    elim (let at : StopsAt name (Some too_long) end = subst P is stops in at) [
      | inl told ↦ TooLong bytes file over told
      | inr told ↦ Lacks told
    ]

pub gave_text : (name bytes : List ℕ) (shelf : ShelfCall) → IsFile shelf.files name bytes → length bytes ≤ MAX_FILE_BYTES → GaveText shelf name bytes
gave_text name bytes shelf is short = record { is = is; short = short }
