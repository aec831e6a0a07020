-- What the first of the lines that are left makes of the rest of a script.
use Rattle.std.proofs.Common.{◌≡◌, ◌+◌, ℕ, List, [], ◌∷◌, Option, Some, None, Result, Ok, Err, ap, ◌∙◌}
use Rattle.htl_script.proofs.Words.{Event, Tables, ScriptKind, Past, ScriptLine, Script, size_of, size_fault, judged_text, judged, Bad, listed, behind, rest_of_lines, past_after_if}
use Rattle.htl_script.proofs.Splitting.{by_size}

-- a line that breaks a rule on its size, and one that breaks none
pub judged-sized : (t : Tables) (start : ℕ) (past : Past) (x : ScriptLine) (k : ScriptKind) → size_fault start x ≡ Some k → judged t start past x ≡ Err k
judged-sized t start past x k e = by_size start x (judged_text t past x.text) ∙ ap (λ (o : Option ScriptKind). elim o as (λ _. Result (Option Event) ScriptKind) [ Some k ↦ Err k | None ↦ judged_text t past x.text ]) e

pub judged-short : (t : Tables) (start : ℕ) (past : Past) (x : ScriptLine) → size_fault start x ≡ None → judged t start past x ≡ judged_text t past x.text
judged-short t start past x e = by_size start x (judged_text t past x.text) ∙ ap (λ (o : Option ScriptKind). elim o as (λ _. Result (Option Event) ScriptKind) [ Some k ↦ Err k | None ↦ judged_text t past x.text ]) e

-- what the lines give, by what the first gives
pub rest_of_lines-first : (t : Tables) (line start : ℕ) (past : Past) (x : ScriptLine) (xs : List ScriptLine) (r : Result (Option Event) ScriptKind)
    → judged t start past x ≡ r
    → rest_of_lines t line start past (x ∷ xs)
    ≡ elim r [ Ok e ↦ behind (listed e) (rest_of_lines t (line + 1) (start + size_of x) (past_after_if past e) xs) | Err k ↦ Bad line k [] ]
rest_of_lines-first t line start past x xs r e =
    ap (λ (v : Result (Option Event) ScriptKind). elim v [ Ok e ↦ behind (listed e) (rest_of_lines t (line + 1) (start + size_of x) (past_after_if past e) xs) | Err k ↦ Bad line k [] ]) e

pub first_says : (t : Tables) (line start : ℕ) (past : Past) (x : ScriptLine) (all xs : List ScriptLine) (r : Result (Option Event) ScriptKind) → all ≡ x ∷ xs → size_fault start x ≡ None → judged_text t past x.text ≡ r
    → rest_of_lines t line start past all
    ≡ elim r as (λ _. Script) [ Ok e ↦ behind (listed e) (rest_of_lines t (line + 1) (start + size_of x) (past_after_if past e) xs) | Err k ↦ Bad line k [] ]
first_says t line start past x all xs r lines sized says =
    ap (rest_of_lines t line start past) lines ∙ rest_of_lines-first t line start past x xs r (judged-short t start past x sized ∙ says)
