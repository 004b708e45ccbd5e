-- Setting the gates of a loop that read something new.
use Rattle.std.proofs.Common.{◌≡◌, ◌≢◌, ◌⊎◌, inl, inr, ℕ, zero, suc, ◌+◌, ◌-◌, ◌*◌, ◌<◌, ◌≤◌, ◌==◌, Bool, true, false, ◌&&◌, leb, if◌then◌else◌, List, [], ◌∷◌, ◌++◌, length, drop, map, get_or, set, replicate, None, refl, sym, ap, ap₂, subst, ◌∙◌, arith, Contains, append-nil, true≢false}
use Rattle.loop_simulation.proofs.Common.{and_parts, length-set, Contains-append_left, Contains-push, Contains-push_cases, Sig, Trit, X, Below, gate_at, gate_sig, wire, home_of, is_cut, first_gate, gate_of, value_in, map_agree, IsSweeping, AreUnseen, IsReady, LoopAt, IsLoopAt, gates_in, AreReaders}
use Rattle.std.proofs.lemmas.Bool.{cases_eq, leb-true}
use Rattle.std.proofs.lemmas.List.{drop_more, get_or-set_same, get_or-set_other, length-append, length-replicate}
use Rattle.std.proofs.lemmas.List.Elements.{Contains-append_cases, Contains-append_right}
use Rattle.ternary_run.proofs.SettlingLemmas.{falls}
use Rattle.cyc_base.proofs.OrderLemmas.{Below-refl, Below-trans, Below-unknown, EachBelow-from_at}
use Rattle.cyc_base.proofs.ListLemmas.{Contains-cases, Contains-nothing}
use Rattle.cover_logic.specs.Extensions.{ext}
use Rattle.netlist.proofs.FixpointLemmas.{known_count, known_count-le, same_or_more}
use Rattle.loops.proofs.Sweeps.{ext_below}
use Rattle.loop_simulation.proofs.LoopLemmas.{gate-fits}
use Rattle.loop_simulation.specs.Events.{cover_value, IsDetermined, IsNewValue}
use Rattle.loop_simulation.specs.Simulations.{seen_of}

-- ---- lists and values

-- signals that differ from one signal alone in what is seen of it are seen alike, where it isn't among them
reads-or-same : (pins : List Sig) (f h : Sig → Trit) (s : Sig) → ((p : Sig) → p.0 ≢ s.0 → f p ≡ h p) → Contains pins s ⊎ (map f pins ≡ map h pins)
reads-or-same [] f h s same = inr refl
reads-or-same (p ∷ pins) f h s same =
    elim (cases_eq p.0 s.0) [
      | inl e ↦ (let is : p ≡ s = ap (λ (n : ℕ). let sig : Sig = record { 0 = n } in sig) e in inl (zero, omega arith, is))
      | inr differs ↦ elim (reads-or-same pins f h s same) [
        | inl there ↦ inl (suc there.0, omega (arith, there.1), there.2)
        | inr alike ↦ inr (ap₂ (λ (y : Trit) (ys : List Trit). y ∷ ys) (same p differs) alike)
      ]
    ]

-- choices whose branches are alike, or rise, are so
choice-same : (b : Bool) (x y u v : Trit) → (b ≡ true → x ≡ u) → (b ≡ false → y ≡ v) → (if b then x else y) ≡ (if b then u else v)
choice-same b x y u v first second = grind arith

choice-below : (b : Bool) (x y u v : Trit) → (b ≡ true → Below x u) → (b ≡ false → Below y v) → Below (if b then x else y) (if b then u else v)
choice-below b x y u v first second = grind arith

-- a known value below another is that value
same-or-unknown : (x y : Trit) → Below x y → (x ≡ X → y ≡ X) → x ≡ y
same-or-unknown x y below unknown = grind arith

-- a value that becomes known rises
set-rises : (s : List Trit) (g : ℕ) (x : Trit) → g < length s → Below (value_in s g) x → (n : ℕ) → Below (value_in s n) (value_in (set s g x) n)
set-rises s g x low below n = grind (arith, cases_eq n g, get_or-set_same s g x X low, get_or-set_other s g n x X, Below-refl (value_in s n))

-- ---- what a change lets gates see

-- what gates of the loop see of one of its gates
abbrev shown : LoopAt → (before after : List Trit) → ℕ → Trit
shown l before after n = if is_cut l.cut.wires n then value_in before n else value_in after n

-- whether a signal is driven in the loop
abbrev is_inside : LoopAt → Sig → Bool
is_inside l s = leb (first_gate l.net) s.0 && home_of l.blocks (gate_of l.net s) == l.number

-- two states, of which the second differs in what is seen of one gate alone, and this has risen
record HasRisen (l : LoopAt) (before after before' after' : List Trit) (g : ℕ) : Type 0 where
  pub others : (n : ℕ) → n ≢ g → shown l before after n ≡ shown l before' after' n
  pub rises : (n : ℕ) → Below (shown l before after n) (shown l before' after' n)

module _ (l : LoopAt) (outside : List Trit) where
  module _ (before after before' after' : List Trit) (g : ℕ) (risen : HasRisen l before after before' after' g) where
    cover-rises : (n : ℕ) → Below (cover_value l outside before after n) (cover_value l outside before' after' n)
    cover-rises n =
        ext_below l.net n (seen_of l outside before after) (seen_of l outside before' after')
        (λ pin.
        choice-below (is_inside l pin) (shown l before after (gate_of l.net pin)) (wire outside pin) (shown l before' after' (gate_of l.net pin)) (wire outside pin)
        (λ is. risen.rises (gate_of l.net pin)) (λ is. Below-refl (wire outside pin)))

    reads-or-still : (n : ℕ) → Contains (gate_at l.net n).pins (gate_sig l.net g) ⊎ (cover_value l outside before after n ≡ cover_value l outside before' after' n)
    reads-or-still n =
        elim (reads-or-same (gate_at l.net n).pins (seen_of l outside before after) (seen_of l outside before' after') (gate_sig l.net g)
        (λ pin differs.
        choice-same (is_inside l pin) (shown l before after (gate_of l.net pin)) (wire outside pin) (shown l before' after' (gate_of l.net pin)) (wire outside pin)
        (λ is. risen.others (gate_of l.net pin)
        (λ same.
        let low = leb-true (first_gate l.net) pin.0 (and_parts (leb (first_gate l.net) pin.0) (home_of l.blocks (gate_of l.net pin) == l.number) is).0 in
        differs (omega (arith, low, same)))) (λ is. refl))) [
          | inl reads ↦ inl reads
          | inr alike ↦ inr (ap (ext (gate_at l.net n).cover) alike)
        ]

    readers-or-still : (readers : List (List ℕ)) → AreReaders l (gates_in l) readers → Contains (gates_in l) g → (n : ℕ) → Contains (gates_in l) n →
        Contains (get_or readers g []) n ⊎ (cover_value l outside before after n ≡ cover_value l outside before' after' n)
    readers-or-still readers are inside n there = elim (reads-or-still n) [ inl reads ↦ inl (are.each g n inside there reads) | inr still ↦ inr still ]

  -- ---- a gate is set

  -- it is seen in the sweep
  uncut-risen : (before after : List Trit) (g : ℕ) (value : Trit) → g < length after → is_cut l.cut.wires g ≡ false → Below (value_in after g) value → HasRisen l before after before (set after g value) g
  uncut-risen before after g value low uncut below = grind (arith, get_or-set_other after g, choice-below, Below-refl, set-rises after g value low below)

  -- or, as a cut wire, isn't
  cut-still : (before after : List Trit) (g : ℕ) (value : Trit) → is_cut l.cut.wires g ≡ true → (n : ℕ) → cover_value l outside before after n ≡ cover_value l outside before (set after g value) n
  cut-still before after g value cut n = grind (arith, map_agree (seen_of l outside before after) (seen_of l outside before (set after g value)) (gate_at l.net n).pins, choice-same, get_or-set_other after g, true≢false)

  module _ (before after : List Trit) (rest : List ℕ) (g : ℕ) (h : IsSweeping l outside before after (rest ++ g ∷ [])) where
    pub waiting-inside : Contains (gates_in l) g
    waiting-inside = h.inside g (Contains-push rest g)

    -- a gate that waits has its cover's value already
    pub gate-kept : IsNewValue l outside before after g None → IsSweeping l outside before after rest
    gate-kept none = record {
      width_before = h.width_before;
      width_after = h.width_after;
      inside = λ n there. h.inside n (Contains-append_left rest (g ∷ []) n there);
      below = h.below;
      still = λ n there. elim (h.still n there) [
        | inr is ↦ inr is
        | inl waits ↦ elim (Contains-push_cases rest g n waits) [
          | inl early ↦ inl early
          | inr same ↦ inr (rw same at (same-or-unknown (value_in after g) (cover_value l outside before after g) (h.below g waiting-inside) none))
        ]
      ];
    }

    module _ (value : Trit) (is : IsDetermined l outside before after g value) (low : g < length after) where
      gate-set : (more : List ℕ) → ((n : ℕ) → Contains more n → Contains (gates_in l) n) →
          ((n : ℕ) → Below (cover_value l outside before after n) (cover_value l outside before (set after g value) n)) →
          ((n : ℕ) → Contains (gates_in l) n → Contains more n ⊎ (cover_value l outside before after n ≡ cover_value l outside before (set after g value) n)) →
          IsSweeping l outside before (set after g value) (rest ++ more)
      gate-set more inside rises alike = record {
        width_before = h.width_before;
        width_after = length-set after g value ∙ h.width_after;
        inside = λ n there. elim (Contains-append_cases rest more n there) [
          | inl early ↦ h.inside n (Contains-append_left rest (g ∷ []) n early)
          | inr new ↦ inside n new
        ];
        below = λ n there. elim (cases_eq n g) [
          | inl same ↦ rw (same, now) (rises g)
          | inr other ↦
              rw (get_or-set_other after g n value X other)
              (Below-trans (value_in after n) (cover_value l outside before after n) (cover_value l outside before (set after g value) n) (h.below n there) (rises n))
        ];
        still = λ n there. elim (alike n there) [
          | inl new ↦ inl (Contains-append_right rest more n new)
          | inr same_cover ↦ elim (cases_eq n g) [
            | inl same ↦ inr (rw same (now ∙ rw same at same_cover))
            | inr other ↦ elim (h.still n there) [
              | inr was ↦ inr (get_or-set_other after g n value X other ∙ was ∙ same_cover)
              | inl waits ↦ elim (Contains-push_cases rest g n waits) [
                | inl early ↦ inl (Contains-append_left rest more n early)
                | inr same ↦ absurd (other (sym same))
              ]
            ]
          ]
        ];
      }
        where
          now : value_in (set after g value) g ≡ cover_value l outside before after g
          now = get_or-set_same after g value X low ∙ is.is

      below-value : Below (value_in after g) value
      below-value = rw is.unknown tt

      pub uncut-set : (readers : List (List ℕ)) → AreReaders l (gates_in l) readers → is_cut l.cut.wires g ≡ false → IsSweeping l outside before (set after g value) (rest ++ get_or readers g [])
      uncut-set readers are uncut =
          let risen : HasRisen l before after before (set after g value) g = uncut-risen before after g value low uncut below-value in
          gate-set (get_or readers g []) (λ n row. are.only g n row)
          (cover-rises before after before (set after g value) g risen)
          (readers-or-still before after before (set after g value) g risen readers are waiting-inside)

      pub cut-set : is_cut l.cut.wires g ≡ true → IsSweeping l outside before (set after g value) rest
      cut-set cut = grind (arith, append-nil rest, gate-set [], cut-still before after g value cut, Below-refl)

  -- ---- a cut wire is shown

  cut-risen : (before after : List Trit) (g : ℕ) → g < length before → is_cut l.cut.wires g ≡ true → Below (value_in before g) (value_in after g) → HasRisen l before after (set before g (value_in after g)) after g
  cut-risen before after g low cut below = grind (arith, get_or-set_other before g, choice-below, set-rises before g (value_in after g) low below, Below-refl)

  pub wire-shown : (before after : List Trit) (waiting : List ℕ) (g : ℕ) (readers : List (List ℕ)) → AreReaders l (gates_in l) readers → Contains (gates_in l) g → is_cut l.cut.wires g ≡ true →
      Below (value_in before g) (value_in after g) → g < length before → IsSweeping l outside before after waiting → IsSweeping l outside (set before g (value_in after g)) after (waiting ++ get_or readers g [])
  wire-shown before after waiting g readers are inside cut below low h =
      let risen : HasRisen l before after (set before g (value_in after g)) after g = cut-risen before after g low cut below in
      record {
        width_before = length-set before g (value_in after g) ∙ h.width_before;
        width_after = h.width_after;
        inside = λ n there. elim (Contains-append_cases waiting (get_or readers g []) n there) [
          | inl early ↦ h.inside n early
          | inr new ↦ are.only g n new
        ];
        below = λ n there.
            Below-trans (value_in after n) (cover_value l outside before after n) (cover_value l outside (set before g (value_in after g)) after n) (h.below n there)
            (cover-rises before after (set before g (value_in after g)) after g risen n);
        still = λ n there. elim (readers-or-still before after (set before g (value_in after g)) after g risen readers are inside n there) [
          | inl new ↦ inl (Contains-append_right waiting (get_or readers g []) n new)
          | inr same_cover ↦ elim (h.still n there) [
            | inl waits ↦ inl (Contains-append_left waiting (get_or readers g []) n waits)
            | inr was ↦ inr (was ∙ same_cover)
          ]
        ];
      }

-- ---- the cut wires that gates don't see as they are

module _ (l : LoopAt) where
  -- a gate that is no cut wire is set
  pub uncut-unseen : (before after : List Trit) (g : ℕ) (value : Trit) (wires : List ℕ) → is_cut l.cut.wires g ≡ false → AreUnseen l before after wires → AreUnseen l before (set after g value) wires
  uncut-unseen before after g value wires uncut h = grind (arith, get_or-set_other after g, true≢false)

  -- a cut wire is set
  pub cut-unseen : (before after : List Trit) (g : ℕ) (value : Trit) (wires : List ℕ) → Contains (gates_in l) g → is_cut l.cut.wires g ≡ true → value_in after g ≡ X → g < length after →
      AreUnseen l before after wires → AreUnseen l before (set after g value) (wires ++ g ∷ [])
  cut-unseen before after g value wires inside cut unknown low h = record {
    inside = λ n there. elim (Contains-push_cases wires g n there) [
      | inl early ↦ h.inside n early
      | inr same ↦ subst (λ (m : ℕ). Contains (gates_in l) m) same inside
    ];
    are = λ n there. elim (Contains-push_cases wires g n there) [
      | inl early ↦ h.are n early
      | inr same ↦ subst (λ (m : ℕ). is_cut l.cut.wires m ≡ true) same cut
    ];
    below = λ n there is. Below-trans (value_in before n) (value_in after n) (value_in (set after g value) n) (h.below n there is)
        (set-rises after g value low (rw unknown tt) n);
    each = λ n there is. elim (cases_eq n g) [
      | inl same ↦ inr (subst (λ (m : ℕ). Contains (wires ++ g ∷ []) m) (sym same) (Contains-push wires g))
      | inr other ↦ elim (h.each n there is) [
        | inl alike ↦ inl (alike ∙ sym (get_or-set_other after g n value X other))
        | inr listed ↦ inr (Contains-append_left wires (g ∷ []) n listed)
      ]
    ];
  }

  -- those that have changed differ in the two states
  pub uncut-differs : (before after : List Trit) (g : ℕ) (value : Trit) (wires : List ℕ) → is_cut l.cut.wires g ≡ false → AreUnseen l before after wires →
      ((n : ℕ) → Contains wires n → value_in before n ≢ value_in after n) → (n : ℕ) → Contains wires n → value_in before n ≢ value_in (set after g value) n
  uncut-differs before after g value wires uncut h differs n there same = grind (arith, get_or-set_other after g n value X, true≢false)

  pub cut-differs : (before after : List Trit) (g : ℕ) (value : Trit) (wires : List ℕ) → Contains (gates_in l) g → is_cut l.cut.wires g ≡ true → value_in after g ≡ X → value ≢ X → g < length after → AreUnseen l before after wires →
      ((n : ℕ) → Contains wires n → value_in before n ≢ value_in after n) → (n : ℕ) → Contains (wires ++ g ∷ []) n → value_in before n ≢ value_in (set after g value) n
  cut-differs before after g value wires inside cut unknown known low h differs n there same =
      grind (arith, cases_eq n g, get_or-set_same after g value X low, Below-unknown (value_in before g) (value_in after g) (h.below g inside cut) unknown, Contains-push_cases wires g n there, get_or-set_other after g n value X)

  -- one of them is shown
  pub wire-seen : (before after : List Trit) (g : ℕ) (wires : List ℕ) → g < length before → AreUnseen l before after (g ∷ wires) → AreUnseen l (set before g (value_in after g)) after wires
  wire-seen before after g wires low h = record {
    inside = λ n there. h.inside n (suc there.0, omega (arith, there.1), there.2);
    are = λ n there. h.are n (suc there.0, omega (arith, there.1), there.2);
    below = λ n there is. elim (cases_eq n g) [
      | inl same ↦ subst (λ (t : Trit). Below t (value_in after n)) (sym (now n same)) (Below-refl (value_in after n))
      | inr other ↦ subst (λ (t : Trit). Below t (value_in after n)) (sym (get_or-set_other before g n (value_in after g) X other)) (h.below n there is)
    ];
    each = λ n there is. elim (cases_eq n g) [
      | inl same ↦ inl (now n same)
      | inr other ↦ elim (h.each n there is) [
        | inl alike ↦ inl (get_or-set_other before g n (value_in after g) X other ∙ alike)
        | inr listed ↦ elim (Contains-cases g wires n listed) [
          | inl same ↦ absurd (other (sym same))
          | inr later ↦ inr later
        ]
      ]
    ];
  }
    where
      now : (n : ℕ) → n ≡ g → value_in (set before g (value_in after g)) n ≡ value_in after n
      now n same = ap (value_in (set before g (value_in after g))) same ∙ get_or-set_same before g (value_in after g) X low ∙ ap (value_in after) (sym same)

-- the next of the cut wires that have changed is shown
pub shown-next : (l : LoopAt) (outside before after : List Trit) (waiting more changed : List ℕ) (i : ℕ) (value : Trit) (readers : List (List ℕ)) → AreReaders l (gates_in l) readers → i < length changed →
    get_or changed i 0 < length before → value ≡ value_in after (get_or changed i 0) → more ≡ waiting ++ get_or readers (get_or changed i 0) [] →
    IsSweeping l outside before after waiting → AreUnseen l before after (drop i changed) →
    IsSweeping l outside (set before (get_or changed i 0) value) after more × AreUnseen l (set before (get_or changed i 0) value) after (drop (i + 1) changed)
shown-next l outside before after waiting more changed i value readers are next low value_is more_is sweeping unseen =
    let wire : ℕ = get_or changed i 0 in
    let rest : AreUnseen l before after (wire ∷ drop (i + 1) changed) = subst (λ (ns : List ℕ). AreUnseen l before after ns) (drop_more changed i 0 next) unseen in
    let first : Contains (wire ∷ drop (i + 1) changed) wire = (zero, omega arith, refl) in
    let inside : Contains (gates_in l) wire = rest.inside wire first in
    let cut = rest.are wire first in
    rw (value_is, more_is) (wire-shown l outside before after waiting wire readers are inside cut (rest.below wire inside cut) low sweeping, wire-seen l before after wire (drop (i + 1) changed) low rest)

-- ---- the first sweep

pub ready-first : (l : LoopAt) (outside : List Trit) → IsReady l outside (replicate (length l.net.gates) X) (replicate (length l.net.gates) X) (gates_in l)
ready-first l outside =
    let unknown : List Trit = replicate (length l.net.gates) X in
    record {
      sweeping = record {
        width_before = length-replicate (length l.net.gates) X;
        width_after = length-replicate (length l.net.gates) X;
        inside = λ n there. there;
        below = λ n there. subst (λ (t : Trit). Below t (cover_value l outside unknown unknown n)) (sym (all-unknown (length l.net.gates) n)) tt;
        still = λ n there. inl there;
      };
      unseen = record {
        inside = λ n none. absurd (Contains-nothing n none);
        are = λ n none. absurd (Contains-nothing n none);
        below = λ n there is. Below-refl (value_in unknown n);
        each = λ n there is. inl refl;
      };
    }
  where
    all-unknown : (k n : ℕ) → value_in (replicate k X) n ≡ X
    all-unknown zero n = refl
    all-unknown (suc k) zero = refl
    all-unknown (suc k) (suc n) = all-unknown k n

-- ---- a sweep ends

-- the length of all rows
pub total : List (List ℕ) → ℕ
total [] = 0
total (row ∷ rows) = length row + total rows

row-fits : (rows : List (List ℕ)) (n : ℕ) → length (get_or rows n []) ≤ total rows
unfolding total
row-fits [] n = omega arith
row-fits (row ∷ rows) zero = omega arith
row-fits (row ∷ rows) (suc n) = omega (arith, row-fits rows n)

-- a state in which an unknown value becomes known has more that are known
more-known : (values : List Trit) (g : ℕ) (value : Trit) → g < length values → value_in values g ≡ X → value ≢ X → known_count values < known_count (set values g value)
more-known values g value low unknown known = grind (arith, same_or_more values (set values g value), EachBelow-from_at values (set values g value), length-set values g value, set-rises values g value low, get_or-set_same values g value X low)

-- the values that are still unknown and the gates that wait, so weighed that it falls when a gate is set
pub work_left : ℕ → List Trit → List ℕ → ℕ
work_left most values waiting = (length values - known_count values) * suc most + length waiting

pub work_left-set : (readers : List (List ℕ)) (values : List Trit) (g : ℕ) (rest more : List ℕ) (value : Trit) → g < length values → value_in values g ≡ X → value ≢ X → length more ≤ total readers →
    work_left (total readers) (set values g value) (rest ++ more) < work_left (total readers) values (rest ++ g ∷ [])
unfolding work_left
work_left-set readers values g rest more value low unknown known few =
    let grown = more-known values g value low unknown known in
    let size = length-set values g value in
    let most = known_count-le (set values g value) in
    let first = length-append rest more in
    let second : length (rest ++ g ∷ []) ≡ suc (length rest) = omega (arith, length-append rest (g ∷ [])) in
    grind (arith, falls (length (set values g value) - known_count (set values g value)) (length values - known_count values) (total readers) (length rest) (length (rest ++ more)))

pub work_left-uncut : (readers : List (List ℕ)) (values : List Trit) (g : ℕ) (rest : List ℕ) (value : Trit) → g < length values → value_in values g ≡ X → value ≢ X →
    work_left (total readers) (set values g value) (rest ++ get_or readers g []) < work_left (total readers) values (rest ++ g ∷ [])
work_left-uncut readers values g rest value low unknown known = work_left-set readers values g rest (get_or readers g []) value low unknown known (row-fits readers g)

pub work_left-cut : (readers : List (List ℕ)) (values : List Trit) (g : ℕ) (rest : List ℕ) (value : Trit) → g < length values → value_in values g ≡ X → value ≢ X →
    work_left (total readers) (set values g value) rest < work_left (total readers) values (rest ++ g ∷ [])
work_left-cut readers values g rest value low unknown known = grind (arith, append-nil rest, work_left-set readers values g rest [] value low unknown known)

pub work_left-kept : (most : ℕ) (values : List Trit) (g : ℕ) (rest : List ℕ) → work_left most values rest < work_left most values (rest ++ g ∷ [])
unfolding work_left
work_left-kept most values g rest = omega (arith, length-append rest (g ∷ []))

-- ---- a gate that was taken from those that wait

module _ (l : LoopAt) (outside before after : List Trit) (waiting rest : List ℕ) (g : ℕ) (taken : waiting ≡ rest ++ g ∷ []) (h : IsSweeping l outside before after waiting) where
  pub taken-last : IsSweeping l outside before after (rest ++ g ∷ [])
  taken-last = subst (λ (ns : List ℕ). IsSweeping l outside before after ns) taken h

  taken-inside : Contains (gates_in l) g
  taken-inside = waiting-inside l outside before after rest g taken-last

  pub taken-fits : IsLoopAt l → g < length l.net.gates
  taken-fits is = gate-fits l is g taken-inside
