-- The events of a script, told one by one: what comes next, and what is written.
use Rattle.std.proofs.Common.{arith, ◌≡◌, ◌≤◌, ◌<◌, ◌+◌, ◌-◌, ℕ, suc, List, [], ◌∷◌, ◌++◌, Option, None, Some, refl, sym, ap, ◌∙◌, subst}
use Rattle.htl_top.proofs.Vocabulary.{IfSome, append-nil, Shown, accepted_is_loaded, reading_more, later_leave, text_between, reading_of, AreReadFrom, before_of, lines_of, schedules_of, Tables, task_worst, Event, Inv, IsAccepted, Object, AreTookWithin, AreEvents, past_after, past_after_all, past_of, Past, HaveNoEnd, IsNext, text_more, text_to, text_before_fault, up_to_more}
use Rattle.htl_model.specs.declared.event.Event.TheVariants as event

-- ---- what comes next

-- the last reading; 0 where there is none
abbrev Behind : Option ℕ → ℕ → Type 0
Behind None reading = reading ≡ 0
Behind (Some last) reading = reading ≡ last

not_below : (last : Option ℕ) (reading to : ℕ) → Behind last reading → IfSome last (λ r. r < to) → reading ≤ to
not_below None reading to is h = omega (arith, is)
not_below (Some last) reading to is h = omega (arith, is, h)

worst_is : (t : Tables) (i : ℕ) (x : Inv) (o : Option Inv) → o ≡ Some x → elim o [ Some y ↦ task_worst t y.task | None ↦ 0 ] ≡ task_worst t x.task
worst_is t i x o is = ap (λ (p : Option Inv). elim p [ Some y ↦ task_worst t y.task | None ↦ 0 ]) is

next_at : (t : Tables) (last : Option ℕ) (reading : ℕ) (e : Event) (later : List Event) → Behind last reading → AreEvents t last (e ∷ later) → HaveNoEnd (e ∷ later) → IsNext t reading e
next_at t last reading (event.At to) later is are endless = (not_below last reading to is are.1, are.0)
next_at t last reading (event.Sense c x) later is are endless =
    let s = are.1 in record { comm = s.0; known = s.1; sensor = s.2; fits = s.3 }
next_at t last reading (event.Took i n) later is are endless =
    let k = are.1 in
    record { inv = k.0; known = k.1; concrete = k.2; some = k.3; worst = subst (λ (w : ℕ). n ≤ w) (worst_is t i k.0 _ k.1) k.4 }
next_at t last reading (event.End to) later is are endless = absurd endless

next_behind : (t : Tables) (last : Option ℕ) (reading : ℕ) (es : List Event) (e : Event) (later : List Event) → Behind last reading → AreEvents t last (es ++ e ∷ later)
    → HaveNoEnd (es ++ e ∷ later) → IsNext t (reading_of reading es) e
next_behind t last reading [] e later is are endless = next_at t last reading e later is are endless
next_behind t last reading (event.At to ∷ es) e later is are endless = next_behind t (Some to) to es e later refl are.2 endless
next_behind t last reading (event.Sense c x ∷ es) e later is are endless = next_behind t last reading es e later is are.2 endless
next_behind t last reading (event.Took i n ∷ es) e later is are endless = next_behind t last reading es e later is are.2 endless
next_behind t last reading (event.End to ∷ es) e later is are endless = absurd endless

pub next : (t : Tables) (es : List Event) (e : Event) (later : List Event) → AreEvents t None (es ++ e ∷ later) → HaveNoEnd (es ++ e ∷ later) → IsNext t (reading_of 0 es) e
next t es e later are endless = next_behind t None 0 es e later refl are endless

-- ---- lengths are within the worst cases

took_behind : (t : Tables) (last : Option ℕ) (es : List Event) → AreEvents t last es → AreTookWithin t es
took_behind t last [] are = tt
took_behind t last (event.At to ∷ es) are = (tt, took_behind t (Some to) es are.2)
took_behind t last (event.Sense c x ∷ es) are = (tt, took_behind t last es are.2)
took_behind t last (event.Took i n ∷ es) are = ((are.1.3, are.1.4), took_behind t last es are.2)
took_behind t last (event.End to ∷ es) are = (tt, subst (AreTookWithin t) (sym are.2) tt)

pub took_within : (t : Tables) (es : List Event) → AreEvents t None es → AreTookWithin t es
took_within t es are = took_behind t None es are

-- ---- what is written

module _ (o : Object) (show : Shown) (accepted : IsAccepted o) where
  -- the instants between two readings
  on : (es : List Event) (from to : ℕ) → from ≤ to → before_of o es show to ≡ before_of o es show from ++ text_between o es show from to
  on es from to h =
      ap (before_of o es show) (let z : to ≡ from + (to - from) = omega (arith, h) in z) ∙ up_to_more (lines_of o es show) from (to - from)

  -- what comes then changes nothing before
  stays : (es later : List Event) (now : ℕ) → AreTookWithin o.tables (es ++ later) → AreReadFrom now (reading_of 0 es) later → before_of o (es ++ later) show now ≡ before_of o es show now
  stays es later now within from = later_leave o.tables o.ecode (schedules_of o) show now (accepted_is_loaded o accepted) es later within from

  pub text_next : (es : List Event) (e : Event) → AreTookWithin o.tables (es ++ e ∷ []) → HaveNoEnd (e ∷ []) → IsNext o.tables (reading_of 0 es) e
      → before_of o (es ++ e ∷ []) show (reading_of 0 (es ++ e ∷ [])) ≡ before_of o es show (reading_of 0 es) ++ text_more o show es e
  text_next es (event.At to) within none is =
      ap (before_of o (es ++ event.At to ∷ []) show) (reading_more 0 es (event.At to)) ∙ stays es (event.At to ∷ []) to within tt ∙ on es (reading_of 0 es) to is.0
  text_next es (event.Sense c x) within none is =
      ap (before_of o (es ++ event.Sense c x ∷ []) show) (reading_more 0 es (event.Sense c x)) ∙ stays es (event.Sense c x ∷ []) (reading_of 0 es) within (omega arith, tt)
      ∙ sym (append-nil (before_of o es show (reading_of 0 es)))
  text_next es (event.Took i n) within none is =
      ap (before_of o (es ++ event.Took i n ∷ []) show) (reading_more 0 es (event.Took i n)) ∙ stays es (event.Took i n ∷ []) (reading_of 0 es) within (omega arith, tt)
      ∙ sym (append-nil (before_of o es show (reading_of 0 es)))
  text_next es (event.End to) within none is = absurd none

  -- up to and including the end
  pub text_end : (es : List Event) (end : ℕ) → AreTookWithin o.tables (es ++ event.End end ∷ []) → reading_of 0 es ≤ end
      → before_of o (es ++ event.End end ∷ []) show (suc end) ≡ before_of o es show (reading_of 0 es) ++ text_between o es show (reading_of 0 es) (suc end)
  text_end es end within h = stays es (event.End end ∷ []) (suc end) within tt ∙ on es (reading_of 0 es) (suc end) (omega (arith, h))

-- ---- where the end is

no_items : (es : List Event) (e : Event) → es ++ e ∷ [] ≡ [] → ⊥
no_items [] e h = cc
no_items (x ∷ es) e h = cc

-- lists that end in one thing have one front
pub last_same : (es fs : List Event) (d e : Event) → es ++ d ∷ [] ≡ fs ++ e ∷ [] → (es ≡ fs) × (d ≡ e)
last_same [] [] d e is = (refl, cc)
last_same [] (y ∷ fs) d e is = absurd (no_items fs e (cc))
last_same (x ∷ es) [] d e is = absurd (no_items es d (cc))
last_same (x ∷ es) (y ∷ fs) d e is =
    let heads : x ≡ y = cc in
    let rest = last_same es fs d e (cc) in (ap (λ (z : Event). z ∷ es) heads ∙ ap (λ (gs : List Event). y ∷ gs) rest.0, rest.1)

-- events before an end have none; it isn't below the last reading and is an instant of a run
record IsFront (t : Tables) (last : Option ℕ) (reading : ℕ) (es : List Event) (end : ℕ) : Type 0 where
  are : AreEvents t last es
  none : HaveNoEnd es
  order : reading_of reading es ≤ end
  in_time : end ≤ 1000000000

below_end : (last : Option ℕ) (reading to : ℕ) → Behind last reading → IfSome last (λ r. r ≤ to) → reading ≤ to
below_end None reading to is h = omega (arith, is)
below_end (Some last) reading to is h = omega (arith, is, h)

front : (t : Tables) (last : Option ℕ) (reading : ℕ) (es : List Event) (end : ℕ) → Behind last reading → AreEvents t last (es ++ event.End end ∷ []) → IsFront t last reading es end
front t last reading [] end is are = record { are = tt; none = tt; order = below_end last reading end is are.1; in_time = are.0 }
front t last reading (event.At to ∷ es) end is are =
    let h = front t (Some to) to es end refl are.2 in record { are = (are.0, are.1, h.are); none = h.none; order = h.order; in_time = h.in_time }
front t last reading (event.Sense c x ∷ es) end is are =
    let h = front t last reading es end is are.2 in record { are = (are.0, are.1, h.are); none = h.none; order = h.order; in_time = h.in_time }
front t last reading (event.Took i n ∷ es) end is are =
    let h = front t last reading es end is are.2 in record { are = (are.0, are.1, h.are); none = h.none; order = h.order; in_time = h.in_time }
front t last reading (event.End to ∷ es) end is are = absurd (no_items es (event.End end) are.2)

pub end_after : (t : Tables) (events es : List Event) (end : ℕ) → AreEvents t None events → events ≡ es ++ event.End end ∷ [] → (reading_of 0 es ≤ end) × (end ≤ 1000000000)
end_after t events es end are cut =
    let h = front t None 0 es end refl (subst (λ (xs : List Event). AreEvents t None xs) cut are) in (h.order, h.in_time)

-- ---- what events leave

pub past_more : (p : Past) (es : List Event) (e : Event) → past_after_all p (es ++ e ∷ []) ≡ past_after (past_after_all p es) e
past_more p [] e = refl
past_more p (x ∷ es) e = past_more (past_after p x) es e

-- no end, and the last reading
past_endless : (last : Option ℕ) (reading : ℕ) (es : List Event) → Behind last reading → HaveNoEnd es
    → (r : Option ℕ) × (past_after_all (record { reading = last; end = None }) es ≡ record { reading = r; end = None }) × Behind r (reading_of reading es)
past_endless last reading [] is none = (last, refl, is)
past_endless last reading (event.At to ∷ es) is none = past_endless (Some to) to es refl none
past_endless last reading (event.Sense c x ∷ es) is none = past_endless last reading es is none
past_endless last reading (event.Took i n ∷ es) is none = past_endless last reading es is none
past_endless last reading (event.End to ∷ es) is none = absurd none

to_reading : (o : Object) (show : Shown) (es : List Event) (r : Option ℕ) (reading : ℕ) → Behind r reading → text_to o show es None r ≡ before_of o es show reading
to_reading o show es None reading is = sym (ap (before_of o es show) is)
to_reading o show es (Some last) reading is = sym (ap (before_of o es show) is)

pub text_open : (o : Object) (show : Shown) (es : List Event) → HaveNoEnd es → before_of o es show (reading_of 0 es) ≡ text_before_fault o show es
text_open o show es none =
    let past = past_endless None 0 es refl none in
    sym (ap (λ (p : Past). text_to o show es p.end p.reading) past.1 ∙ to_reading o show es past.0 (reading_of 0 es) past.2)

pub text_ended : (o : Object) (show : Shown) (es : List Event) (end : ℕ) → before_of o (es ++ event.End end ∷ []) show (suc end) ≡ text_before_fault o show (es ++ event.End end ∷ [])
text_ended o show es end = sym (ap (λ (p : Past). text_to o show (es ++ event.End end ∷ []) p.end p.reading) (past_more (past_of []) es (event.End end)))
