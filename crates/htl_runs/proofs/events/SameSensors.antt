-- One more event, for the values: what was read before stays, and what comes is not yet read.
use Rattle.std.proofs.Common.{◌≡◌, ℕ, zero, suc, ◌+◌, ◌*◌, ◌≤◌, ◌<◌, Bool, true, false, cond, ◌&&◌, eqb, leb, ltb, List, [], ◌∷◌, ◌++◌, length, get_or, take, ℤ, pos, refl, sym, ap, ◌∙◌, subst, arith}
use mathlib.Core.Path.{fun_ext}
use Rattle.htl_runs.proofs.Words.{ltb-true, ltb-false, le-ltb, Event, Inv, State, Tables, comm_period, AreInRange, KeptApart, last_sense, sense, initial, newest, state, before, val, out, seen_before, history_local, Left, earlier, Content, InvStands, HasReadInputs, ValuesFollow, values_before, count_left_before, Rises, last_took, inv_worst, took, reading_of}
use Rattle.htl_model.specs.declared.event.Event.TheVariants as V
use Rattle.htl_runs.proofs.values.JobOutputs.{out_seen}

-- ---- the last of the events

last_sense_more : (c u r : ℕ) (x : ℤ) (es : List Event) (e : Event) → last_sense c u r x (es ++ e ∷ []) ≡ last_sense c u (reading_of r es) (last_sense c u r x es) (e ∷ [])
last_sense_more c u r x [] e = refl
last_sense_more c u r x (V.At t ∷ es) e = last_sense_more c u t x es e
last_sense_more c u r x (V.Sense d y ∷ es) e = last_sense_more c u r _ es e
last_sense_more c u r x (V.Took i n ∷ es) e = last_sense_more c u r x es e
last_sense_more c u r x (V.End t ∷ es) e = last_sense_more c u r x es e

last_took_more : (i u r x : ℕ) (es : List Event) (e : Event) → last_took i u r x (es ++ e ∷ []) ≡ last_took i u (reading_of r es) (last_took i u r x es) (e ∷ [])
last_took_more i u r x [] e = refl
last_took_more i u r x (V.At t ∷ es) e = last_took_more i u t x es e
last_took_more i u r x (V.Sense d y ∷ es) e = last_took_more i u r x es e
last_took_more i u r x (V.Took j n ∷ es) e = last_took_more i u r _ es e
last_took_more i u r x (V.End t ∷ es) e = last_took_more i u r x es e

pub reading_more : (r : ℕ) (es : List Event) (e : Event) → reading_of r (es ++ e ∷ []) ≡ reading_of (reading_of r es) (e ∷ [])
reading_more r [] e = refl
reading_more r (V.At t ∷ es) e = reading_more t es e
reading_more r (V.Sense d y ∷ es) e = reading_more r es e
reading_more r (V.Took i n ∷ es) e = reading_more r es e
reading_more r (V.End t ∷ es) e = reading_more r es e

-- a reading, a length and an end change no sensor; a reading, a sensor and an end change no length
pub sense_at : (t : Tables) (es : List Event) (to c u : ℕ) → sense t (es ++ V.At to ∷ []) c u ≡ sense t es c u
sense_at t es to c u = last_sense_more c u 0 (initial t c) es (V.At to)

pub sense_took : (t : Tables) (es : List Event) (i n c u : ℕ) → sense t (es ++ V.Took i n ∷ []) c u ≡ sense t es c u
sense_took t es i n c u = last_sense_more c u 0 (initial t c) es (V.Took i n)

pub sense_end : (t : Tables) (es : List Event) (to c u : ℕ) → sense t (es ++ V.End to ∷ []) c u ≡ sense t es c u
sense_end t es to c u = last_sense_more c u 0 (initial t c) es (V.End to)

pub sense_sense : (t : Tables) (es : List Event) (d c u : ℕ) (y : ℤ) → sense t (es ++ V.Sense d y ∷ []) c u ≡ cond (eqb c d && leb (reading_of 0 es) u) y (sense t es c u)
sense_sense t es d c u y = last_sense_more c u 0 (initial t c) es (V.Sense d y)

pub took_at : (t : Tables) (es : List Event) (to i u : ℕ) → took t (es ++ V.At to ∷ []) i u ≡ took t es i u
took_at t es to i u = last_took_more i u 0 (inv_worst t i) es (V.At to)

pub took_end : (t : Tables) (es : List Event) (to i u : ℕ) → took t (es ++ V.End to ∷ []) i u ≡ took t es i u
took_end t es to i u = last_took_more i u 0 (inv_worst t i) es (V.End to)

pub took_sense : (t : Tables) (es : List Event) (d i u : ℕ) (y : ℤ) → took t (es ++ V.Sense d y ∷ []) i u ≡ took t es i u
took_sense t es d i u y = last_took_more i u 0 (inv_worst t i) es (V.Sense d y)

pub took_took : (t : Tables) (es : List Event) (j n i u : ℕ) → took t (es ++ V.Took j n ∷ []) i u ≡ cond (eqb i j && leb (reading_of 0 es) u) n (took t es i u)
took_took t es j n i u = last_took_more i u 0 (inv_worst t i) es (V.Took j n)

-- ---- events that agree before an instant

-- the sensors agree before it
abbrev pub Alike : Tables → List Event → List Event → ℕ → Type 0
Alike t es fs now = (c u : ℕ) → u < now → sense t es c u ≡ sense t fs c u

pub state_same : (t : Tables) (es fs : List Event) (now n : ℕ) → Alike t es fs now → n < now → state t es n ≡ state t fs n
state_same t es fs now n a h = ap newest (history_local t (sense t es) (sense t fs) n (λ c u g. a c u (omega arith)))

pub before_same : (t : Tables) (es fs : List Event) (now : ℕ) → Alike t es fs now → before t es now ≡ before t fs now
before_same t es fs zero a = refl
before_same t es fs (suc n) a = state_same t es fs (suc n) n a (omega arith)

values_same : (t : Tables) (es fs : List Event) (now : ℕ) → Alike t es fs now → values_before t es now ≡ values_before t fs now
values_same t es fs zero a = refl
values_same t es fs (suc n) a = ap (λ (z : State). z.values) (state_same t es fs (suc n) n a (omega arith))

pub val_same : (t : Tables) (es fs : List Event) (now c u : ℕ) → Alike t es fs now → u < now → val t es c u ≡ val t fs c u
val_same t es fs now c u a h = ap (λ (z : State). get_or z.values c (pos 0)) (state_same t es fs now u a h)

seen_same : (t : Tables) (es fs : List Event) (now : ℕ) → Alike t es fs now → seen_before t es now ≡ seen_before t fs now
seen_same t es fs now a = grind (arith, pos, val_same, ltb-true)

-- the world follows on with other events that agree before the instant
pub values_alike : (t : Tables) (range : AreInRange t) (kept : KeptApart t 12) (es fs : List Event) (now : ℕ) (finished : ℕ → Bool) (w : Content) → Alike t es fs now
    → ((i : ℕ) (x : Inv) (s : ℕ) → InvStands t (before t es now).stays i x s → finished i ≡ true → HasReadInputs t now finished x s)
    → ValuesFollow t es now finished w → ValuesFollow t fs now finished w
values_alike t range kept es fs now finished w a read f =
    record {
      values = f.values ∙ values_same t es fs now a;
      inputs = λ i x s k c n st fin at h. f.inputs i x s k c n (back i x s st) fin at h ∙ val_same t es fs now c (s + n * comm_period t c) a h;
      outputs = λ i x s k st fin h.
          let st' = back i x s st in
          f.outputs i x s k st' fin h
          ∙ sym (out_seen t range kept es now finished read (length t.invs) i s k x st' fin)
          ∙ ap (λ seen. out (length t.invs) t seen i s k) (seen_same t es fs now a)
          ∙ out_seen t range kept fs now finished (λ j y r sj fj. read j y r (back j y r sj) fj) (length t.invs) i s k x st fin;
    }
  where
    back : (i : ℕ) (x : Inv) (s : ℕ) → InvStands t (before t fs now).stays i x s → InvStands t (before t es now).stays i x s
    back i x s st = subst (λ (z : State). InvStands t z.stays i x s) (sym (before_same t es fs now a)) st

-- ---- lengths that agree for what is released before an offset

-- the records before an offset are those in front
pub front_is : (a e : ℕ) (ls : List Left) → Rises a ls → take (count_left_before e ls) ls ≡ earlier e ls
front_is a e [] r = refl
front_is a e (l ∷ ls) r = by_test (ltb l.at e) refl (front_is l.at e ls r.1)
  where
    none_later : (a : ℕ) (ms : List Left) → Rises a ms → e ≤ a → earlier e ms ≡ []
    none_later a [] r h = refl
    none_later a (m ∷ ms) r h = grind (arith, le-ltb, none_later m.at ms r.1 (omega (arith, r.0)))

    by_test : (b : Bool) → ltb l.at e ≡ b → take (count_left_before e ls) ls ≡ earlier e ls → take (cond b (suc (count_left_before e ls)) 0) (l ∷ ls) ≡ cond b (l ∷ earlier e ls) (earlier e ls)
    by_test true g ih = ap (λ z. l ∷ z) ih
    by_test false g ih = sym (none_later l.at ls r.1 (ltb-false l.at e g))

pub length-front : (e : ℕ) (ls : List Left) → length (take (count_left_before e ls) ls) ≡ count_left_before e ls
length-front e [] = refl
length-front e (l ∷ ls) = grind (arith, length-front e ls)
