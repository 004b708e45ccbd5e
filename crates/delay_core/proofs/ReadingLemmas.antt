-- What pins see, and where rounds begin.
use Rattle.std.proofs.Common.{◌≡◌, ℕ, zero, suc, ◌+◌, ◌-◌, ◌<◌, ◌≤◌, false, List, [], ◌∷◌, ◌++◌, length, filter, take, replicate, get_or, refl, ap, ap₂, arith, nat_lt}
use Rattle.delay_core.proofs.Common.{get_or_default, cases_lt, Sig, History, bit_at, moment_at, seen, starts_of}
use Rattle.std.proofs.lemmas.List.{take_more}
use Rattle.std.proofs.lemmas.Bool.{lt-ltb, le-ltb}
use Rattle.delay_core.specs.Plays.{events_before}

-- a bit for each pin
pub length-seen : (h : History) (pins : List Sig) (ages : List ℕ) → length ages ≡ length pins → length (seen h pins ages) ≡ length pins
length-seen h [] ages e = refl
length-seen h (s ∷ pins) [] e = absurd (omega arith)
length-seen h (s ∷ pins) (age ∷ ages) e = ap suc (length-seen h pins ages (omega arith))

pub seen-at : (h : History) (pins : List Sig) (ages : List ℕ) (i : ℕ) (s : Sig) (age : ℕ) → length ages ≡ length pins → i < length pins → get_or (seen h pins ages) i false ≡ bit_at (moment_at h (get_or ages i age)) (get_or pins i s)
seen-at h [] ages i s age e l = absurd (omega arith)
seen-at h (p ∷ pins) [] i s age e l = absurd (omega arith)
seen-at h (p ∷ pins) (a ∷ ages) zero s age e l = refl
seen-at h (p ∷ pins) (a ∷ ages) (suc i) s age e l = seen-at h pins ages i s age (omega arith) (omega arith)

-- the start of a round, so many rounds back
pub start-back : (opening : ℕ) (marks : List ℕ) (round back : ℕ) → back < round → get_or (starts_of opening marks round) back 1 ≡ opening + events_before (round - back) marks
start-back opening marks zero back l = absurd (omega arith)
start-back opening marks (suc round) zero l = let e : suc round - 0 ≡ suc round = omega arith in rw e refl
start-back opening marks (suc round) (suc back) l = grind (arith, start-back opening marks round back)

pub start-none : (opening : ℕ) (marks : List ℕ) (round back : ℕ) → round ≤ back → get_or (starts_of opening marks round) back 1 ≡ 1
start-none opening marks zero back l = refl
start-none opening marks (suc round) zero l = absurd (omega arith)
start-none opening marks (suc round) (suc back) l = start-none opening marks round back (omega arith)

-- where the marks up to a place are below a round, and the others aren't
pub events_before-split : (round : ℕ) (marks : List ℕ) (n : ℕ) → n ≤ length marks → ((k d : ℕ) → k < n → get_or marks k d < round) → ((k d : ℕ) → n ≤ k → k < length marks → round ≤ get_or marks k d) → events_before round marks ≡ n
events_before-split round [] n l below above = omega arith
events_before-split round (mark ∷ marks) zero l below above =
    let here : round ≤ mark = above 0 0 (omega arith) (omega arith) in
    rw (le-ltb mark round here)
    (events_before-split round marks zero (omega arith) (λ k d m. absurd (omega arith)) (λ k d m p. above (suc k) d (omega arith) (omega arith)))
events_before-split round (mark ∷ marks) (suc n) l below above =
    let here : mark < round = below 0 0 (omega arith) in
    rw (lt-ltb mark round here)
    (ap suc (events_before-split round marks n (omega arith) (λ k d m. below (suc k) d (omega arith)) (λ k d m p. above (suc k) d (omega arith) (omega arith))))

pub length-starts : (opening : ℕ) (marks : List ℕ) (round : ℕ) → length (starts_of opening marks round) ≡ round
length-starts opening marks zero = refl
length-starts opening marks (suc round) = ap suc (length-starts opening marks round)

-- an event of a round comes before no start up to that of the round
filter-push : (q mark : ℕ) (marks : List ℕ) → q ≤ mark → filter (λ (m : ℕ). nat_lt m q) (marks ++ mark ∷ []) ≡ filter (λ (m : ℕ). nat_lt m q) marks
filter-push q mark [] l = rw (le-ltb mark q l) refl
filter-push q mark (m ∷ marks) l = grind (arith, cases_lt m q, lt-ltb m q, filter-push q mark marks l, le-ltb m q)

pub starts-push : (opening : ℕ) (marks : List ℕ) (mark round : ℕ) → round ≤ mark → starts_of opening (marks ++ mark ∷ []) round ≡ starts_of opening marks round
starts-push opening marks mark zero l = refl
starts-push opening marks mark (suc round) l = grind (arith, filter-push (suc round) mark marks l, starts-push opening marks mark round)

-- the next round begins after all events
pub start-next : (opening : ℕ) (marks : List ℕ) (round : ℕ) → ((i : ℕ) → i < length marks → get_or marks i 0 ≤ round) → opening + events_before (suc round) marks ≡ opening + length marks
start-next opening marks round past =
    ap (λ n. opening + n)
    (events_before-split (suc round) marks (length marks) (omega arith)
    (λ k d l. let at = get_or_default marks k d 0 l in let p = past k l in omega arith)
    (λ k d l m. absurd (omega arith)))

pub start-some : (opening : ℕ) (marks : List ℕ) (round back : ℕ) → 1 ≤ opening → 1 ≤ get_or (starts_of opening marks round) back 1
start-some opening marks zero back l = omega arith
start-some opening marks (suc round) zero l = omega arith
start-some opening marks (suc round) (suc back) l = start-some opening marks round back l

-- one value more of a list that is made from the front on
pub pushed : {X : Type 0} (whole before after : List X) (value d : X) (i : ℕ) → i < length whole → after ≡ before ++ value ∷ [] → before ≡ take i whole → get_or whole i d ≡ value → after ≡ take (i + 1) whole
pushed whole before after value d i l now was here = grind (arith, take_more whole i d l)

-- without events all rounds begin at the opening
pub starts-none : (opening round : ℕ) → starts_of opening [] round ≡ replicate round opening
starts-none opening zero = refl
starts-none opening (suc round) = ap₂ (λ s ss. s ∷ ss) (omega arith) (starts-none opening round)
