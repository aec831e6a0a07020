-- The entries that were kept so far, and what is left of the source.
use Rattle.std.proofs.Common.{arith, ◌-◌, ◌≡◌, ◌≢◌, ◌≤◌, ℕ, zero, suc, false, List, [], ◌∷◌, ◌++◌, length, take, drop, Some, refl, sym, subst, ap, ◌∙◌, append_assoc, length-append}
use Rattle.htl_text.proofs.Words.{slice_get, zip, option_map, kind_of, drop-append_seam, map-append, take-append-drop, AreAll, text_in, token_in, tokens_in, offsets_of, IsKept, skip, token_len, IsFront, token_of, Entry, Token}
use Rattle.htl_text.proofs.{AtPlaces.token_of-kind, Cutting.IsCutting, Cutting.AreFound, Cutting.AreFound-held, Cutting.AreFound-end, Cutting.AreFound-push, Cutting.cut-more, Lengths.token_len-fits, Skipping.skipped}
use Rattle.htl_text.specs.declared.scan.Front.TheVariants as front

pub record AreKeeping (bytes rest : List ℕ) (entries : List Entry) : Type 0 where
  pub found : AreFound bytes rest (tokens_in bytes entries) (offsets_of entries)
  pub kept : (place : ℕ) (entry : Entry) → slice_get entries place ≡ Some entry → IsKept bytes entry
  pub before : List ℕ
  pub suffix : bytes ≡ before ++ rest

pub AreKeeping-all : (bytes rest here : List ℕ) (entries : List Entry) → length bytes ≤ 1048576 → AreKeeping bytes rest entries → here ≡ skip false rest → here ≡ [] → AreAll bytes entries
AreKeeping-all bytes rest here entries fits so e nothing = (
  record { held = AreFound-held bytes rest (tokens_in bytes entries) (offsets_of entries) fits so.found; kept = so.kept },
  AreFound-end bytes rest here (tokens_in bytes entries) (offsets_of entries) (length bytes) so.found e nothing refl,
)

-- what holds of each entry holds with one more
all-push : (P : Entry → Type 0) (es : List Entry) (x : Entry) → ((place : ℕ) (e : Entry) → slice_get es place ≡ Some e → P e) → P x
    → (place : ℕ) (e : Entry) → slice_get (es ++ x ∷ []) place ≡ Some e → P e
all-push P [] x all is zero e f = let same : x ≡ e = cc in subst P same is
all-push P [] x all is (suc place) e f = absurd cc
all-push P (y ∷ es) x all is zero e f = all zero e f
all-push P (y ∷ es) x all is (suc place) e f = all-push P es x (λ k. all (suc k)) is place e f

-- where the text behind a gap stands in the source
record StandsAt (bytes rest here : List ℕ) : Type 0 where
  before : List ℕ
  suffix : bytes ≡ before ++ here
  at : drop (length bytes - length here) bytes ≡ here
  fits : length here ≤ length bytes

stands-at : (bytes rest here before : List ℕ) → bytes ≡ before ++ rest → here ≡ skip false rest → StandsAt bytes rest here
stands-at bytes rest here before suffix e =
    let s = skipped false rest in
    let cut : rest ≡ s.gap ++ here = s.cut ∙ ap (λ (xs : List ℕ). s.gap ++ xs) (sym e) in
    let whole : bytes ≡ (before ++ s.gap) ++ here = suffix ∙ ap (λ (xs : List ℕ). before ++ xs) cut ∙ sym (append_assoc before s.gap here) in
    let long = ap length whole ∙ length-append (before ++ s.gap) here in
    let n : length bytes - length here ≡ length (before ++ s.gap) = omega (arith, long) in
    record {
      before = before ++ s.gap;
      suffix = whole;
      at = ap (λ (k : ℕ). drop k bytes) n ∙ ap (drop (length (before ++ s.gap))) whole ∙ drop-append_seam (before ++ s.gap) here;
      fits = omega (arith, long);
    }

pub AreKeeping-push : (bytes rest here behind : List ℕ) (entries : List Entry) (entry : Entry) → AreKeeping bytes rest entries → here ≡ skip false rest → here ≢ []
    → IsFront here (front.Token entry.kind entry.len) → entry.offset ≡ length bytes - length here → behind ≡ drop entry.len here
    → AreKeeping bytes behind (entries ++ entry ∷ [])
AreKeeping-push bytes rest here behind entries entry so e some is place left =
    let at = stands-at bytes rest here so.before so.suffix e in
    let text : text_in bytes entry ≡ take entry.len here = ap (λ (k : ℕ). take entry.len (drop k bytes)) place ∙ ap (take entry.len) at.at in
    let fits = token_len-fits here in
    let token : token_of (text_in bytes entry) ≡ Some (token_in bytes entry) = token_of-kind (text_in bytes entry) entry.kind (ap (λ (t : List ℕ). option_map kind_of (token_of t)) text ∙ is.2) in
    let first : token_of (take (token_len here) here) ≡ Some (token_in bytes entry) = ap (λ (k : ℕ). token_of (take k here)) (sym is.1) ∙ ap token_of (sym text) ∙ token in
    let more = cut-more bytes rest here (zip (tokens_in bytes entries) (offsets_of entries)) so.found.cutting e some (omega (arith, is.0, is.1)) (token_in bytes entry) entry.offset first place in
    let same : drop (token_len here) here ≡ behind = ap (λ (k : ℕ). drop k here) (sym is.1) ∙ sym left in
    let found = AreFound-push bytes behind (tokens_in bytes entries) (offsets_of entries) (token_in bytes entry) entry.offset so.found.paired
    (subst (λ (xs : List ℕ). IsCutting bytes xs (zip (tokens_in bytes entries) (offsets_of entries) ++ (token_in bytes entry, entry.offset) ∷ [])) same more) in
    record {
      found =
          subst (λ (ts : List Token). AreFound bytes behind ts (offsets_of (entries ++ entry ∷ []))) (sym (map-append (token_in bytes) entries (entry ∷ [])))
          (subst (λ (os : List ℕ). AreFound bytes behind (tokens_in bytes entries ++ token_in bytes entry ∷ []) os) (sym (map-append (λ (x : Entry). x.offset) entries (entry ∷ []))) found);
      kept = all-push (λ (x : Entry). IsKept bytes x) entries entry so.kept (omega (arith, place, at.fits, fits, is.1), token);
      before = at.before ++ take entry.len here;
      suffix =
          at.suffix ∙ ap (λ (xs : List ℕ). at.before ++ xs) (sym (take-append-drop entry.len here) ∙ ap (λ (xs : List ℕ). take entry.len here ++ xs) (sym left))
          ∙ sym (append_assoc at.before (take entry.len here) behind);
    }
