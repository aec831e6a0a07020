-- Where values and modes alone are shown, the sensors decide the text.
use Rattle.std.proofs.Common.{◌≡◌, ℕ, List, [], ◌∷◌, ◌++◌, refl, sym, ap₂, ◌∙◌, arith}
use Rattle.htl_runs.proofs.Words.{append-nil, Event, joined, up_to, lines_text, hyper, Tables, value_lines, changes, up_to_same, SInstr, ECode, Values, RunRecord, old_records, new_records, record_text, lines, text_before}
use Rattle.htl_runs.proofs.events.SameSensors.{Alike, state_same, before_same}

-- no record has a line then
no_lines : (t : Tables) (xs : List RunRecord) → joined (record_text t Values) xs ≡ []
no_lines t [] = refl
no_lines t (x ∷ xs) = no_lines t xs

module _ (t : Tables) (code : ECode) (schedules : List (List SInstr)) (es : List Event) where
  value_lines_alone : (now : ℕ) → lines t code schedules es Values now ≡ lines_text t (value_lines t es now)
  value_lines_alone now = grind (arith, no_lines, append-nil)

  pub values_are_the_meaning : (now : ℕ) → text_before t code schedules es Values now ≡ up_to (λ n. lines_text t (value_lines t es n)) now
  values_are_the_meaning now = up_to_same (lines t code schedules es Values) (λ n. lines_text t (value_lines t es n)) now (λ n h. value_lines_alone n)

pub sensors_decide : (t : Tables) (code other : ECode) (schedules others : List (List SInstr)) (es fs : List Event) (now : ℕ) → Alike t es fs now
    → text_before t code schedules es Values now ≡ text_before t other others fs Values now
sensors_decide t code other schedules others es fs now alike =
    values_are_the_meaning t code schedules es now
    ∙ up_to_same (λ n. lines_text t (value_lines t es n)) (λ n. lines_text t (value_lines t fs n)) now
    (λ n h.
    ap₂ (λ x y. lines_text t (changes t n x y)) (before_same t es fs n (λ c u g. alike c u (omega (arith, g, h)))) (state_same t es fs now n alike h))
    ∙ sym (values_are_the_meaning t other others fs now)
