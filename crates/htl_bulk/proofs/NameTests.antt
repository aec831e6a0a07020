-- The name rules of the generated program, by tests.
use Rattle.std.proofs.Common.{arith, ◌≡◌, ◌<◌, ◌≤◌, ◌+◌, ◌-◌, ◌*◌, ◌&&◌, cond, eqb, leb, leb-true, le-leb, refl, ltb, ltb-true, ℕ, zero, suc, Bool, true, false, List, [], ◌∷◌, length, sym, ap, ◌∙◌, Option, Some, None, slice_get, get_or}
use Rattle.htl_bulk.proofs.Words.{AreNamesRight, Entry, Key, Limits, MatchOption, ParentName, ParentUse, ProgramTree, RepeatedName, Space, UnknownName, WrongKind, and_parts, counts, entries, first_from, is_kind, kinds, limits, look_up, none_at, parents, refined_count, symbols_of, token_of, unknown_by, unknown_token, uses, wrong_token}
use Rattle.htl_names.specs.declared.key.Space.TheVariants as space
use Rattle.htl_names.specs.Trees.{PlainProgram}

-- ---- numbers that rise along the declared names, so that no two have one key

abbrev number_in : List ℕ → ℕ
number_in name = cond (ltb 2 (length name)) (10 * (get_or name 1 0 - 48) + (get_or name 2 0 - 48)) (get_or name 1 0 - 48)

abbrev rank_in : Space → ℕ → ℕ → List ℕ → ℕ
rank_in space.Programs u i name = 1
rank_in space.Comms u i name = cond (eqb (get_or name 0 0) 99) (3 + number_in name) 2
rank_in space.Modules u i name = 200 + 16 * number_in name
rank_in space.Tasks u i name = 201 + 16 * u + 4 * (get_or name 0 0 - 97)
rank_in space.Params u i name = 202 + 16 * u + 4 * i + (get_or name 0 0 - 120)
rank_in space.Modes u i name = 208 + 16 * u
rank_in space.Ports u i name = 209 + 16 * u
rank_in space.Invokes u i name = 210 + 16 * u + (get_or name 0 0 - 97)

abbrev rank : Key → ℕ
rank k = rank_in k.scope.space k.scope.«module» k.scope.item k.name

abbrev rises : ℕ → List Entry → Bool
rises low [] = true
rises low (e ∷ es) = ltb low (rank e.key) && rises (rank e.key) es

above : (es : List Entry) (low k : ℕ) (e : Entry) → rises low es ≡ true → slice_get es k ≡ Some e → low < rank e.key
above [] low k e h at = absurd (let z : ⊥ = cc in z)
above (d ∷ es) low zero e h at =
    let first = ltb-true low (rank d.key) (and_parts (ltb low (rank d.key)) (rises (rank d.key) es) h).0 in
    let same : d ≡ e = cc in
    omega (arith, first, ap (λ (x : Entry). rank x.key) same)
above (d ∷ es) low (suc k) e h at =
    let both = and_parts (ltb low (rank d.key)) (rises (rank d.key) es) h in
    omega (arith, ltb-true low (rank d.key) both.0, above es (rank d.key) k e both.1 at)

risen : (es : List Entry) (low j k : ℕ) (d e : Entry) → rises low es ≡ true → j < k → slice_get es j ≡ Some d → slice_get es k ≡ Some e → rank d.key < rank e.key
risen [] low j k d e h less at there = absurd (let z : ⊥ = cc in z)
risen (x ∷ es) low j zero d e h less at there = absurd (omega (arith, less))
risen (x ∷ es) low zero (suc k) d e h less at there =
    let same : x ≡ d = cc in
    let both = and_parts (ltb low (rank x.key)) (rises (rank x.key) es) h in
    omega (arith, above es (rank x.key) k e both.1 there, ap (λ (y : Entry). rank y.key) same)
risen (x ∷ es) low (suc j) (suc k) d e h less at there =
    risen es (rank x.key) j k d e (and_parts (ltb low (rank x.key)) (rises (rank x.key) es) h).1 (omega (arith, less)) at there

-- ---- what a test that finds nothing tells

unless_none : {A : Type 0} (b : Bool) (x : A) → cond b None (Some x) ≡ None → b ≡ true
unless_none true x e = refl
unless_none false x e = absurd (let z : ⊥ = cc in z)

has_place : (o below : Option ℕ) (token : ℕ) → unknown_by o below token ≡ None → MatchOption o (Unit {0}) (λ n. MatchOption below ⊥ (λ b. b ≤ n)) → ⊥
has_place None below token e is = let z : ⊥ = cc in z
has_place (Some n) None token e is = is
has_place (Some n) (Some b) token e is = let test = le-leb b n is in let z : ⊥ = cc in z

-- a count that is above its limit
abbrev over : Option ℕ → ℕ → Option ℕ
over None count = None
over (Some limit) count = cond (leb count limit) None (Some count)

within : (o : Option ℕ) (count limit : ℕ) → o ≡ Some limit → over o count ≡ None → count ≤ limit
within o count limit is e = leb-true count limit (unless_none (leb count limit) count (sym (ap (λ x. over x count) is) ∙ e))

-- ---- the rules

-- what the tests find in a tree
pub record NameFindings : Type 0 where
  pub rise : Bool
  pub unknown : Option ℕ
  pub wrong : Option ℕ
  pub refined : ℕ
  pub parents : List ParentUse
  pub exceeded : Option ℕ
  pub programs : ℕ

abbrev pub findings_by : List (Key × ℕ) → List PlainProgram → NameFindings
findings_by symbols ps =
    record {
      rise = rises 0 (entries ps);
      unknown = first_from (λ k. unknown_token symbols) 0 (uses ps);
      wrong = first_from (λ k. wrong_token) 0 (kinds ps);
      refined = refined_count symbols ps 0;
      parents = parents ps;
      exceeded = first_from (λ k. over (slice_get limits k)) 0 (counts symbols ps);
      programs = length ps;
    }

abbrev pub name_findings : List PlainProgram → NameFindings
name_findings ps = findings_by (symbols_of ps) ps

-- what they find where no rule is broken
abbrev pub good_names : NameFindings
good_names = record { rise = true; unknown = None; wrong = None; refined = 0; parents = []; exceeded = None; programs = 1 }

pub names_right : (ps : List PlainProgram) → name_findings ps ≡ good_names → AreNamesRight ps
names_right ps e RepeatedName k f b =
    let r = b.2 in
    let more = risen (entries ps) 0 r.0 k r.1 b.0 (ap (λ (n : NameFindings). n.rise) e) r.2 r.3 b.1 in
    omega (arith, more, ap rank r.4)
names_right ps e UnknownName k f b =
    let u = b.0 in
    let none = none_at (λ k. unknown_token (symbols_of ps)) (uses ps) (ap (λ (n : NameFindings). n.unknown) e) k u b.1 in
    has_place (look_up u.key (symbols_of ps)) u.below u.token none b.2
names_right ps e WrongKind k f b =
    let is = unless_none (is_kind b.0) (token_of b.0) (none_at (λ k. wrong_token) (kinds ps) (ap (λ (n : NameFindings). n.wrong) e) k b.0 b.1) in
    let no = b.2 in let z : ⊥ = cc in z
names_right ps e ProgramTree zero f b = let none = ap (λ (n : NameFindings). n.refined) e in let some = b.1 in omega (arith, none, some)
names_right ps e ProgramTree (suc k) f b = let one = ap (λ (n : NameFindings). n.programs) e in let less = b.0 in omega (arith, one, less)
names_right ps e ParentName k f b = let none = ap (λ (n : NameFindings). n.parents) e in let at = b.1 in let z : ⊥ = cc in z
names_right ps e Limits k f b =
    let none = none_at (λ k. over (slice_get limits k)) (counts (symbols_of ps) ps) (ap (λ (n : NameFindings). n.exceeded) e) k b.0 b.2 in
    let few = within (slice_get limits k) b.0 b.1 b.3 none in
    let more = b.4 in omega (arith, few, more)
