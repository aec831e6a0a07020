-- Bytes that are a table, and bytes that are none.
use Rattle.std.proofs.Common.{◌≡◌, Bool, true, false, List, ℕ, cond, Some, None, ap, ◌∙◌, refl}
use Rattle.htl_platform.proofs.Words.{IsUtf8, is_utf8, IsUtf8-from_is_utf8, is_utf8-from_IsUtf8, Members, parse_document, document_in}

pub document-found : (bytes : List ℕ) (ms : Members) → IsUtf8 bytes → parse_document bytes ≡ Some ms → document_in bytes ≡ Some ms
document-found bytes ms text is = ap (λ (b : Bool). cond b (parse_document bytes) None) (is_utf8-from_IsUtf8 bytes text) ∙ is

pub document-refused : (bytes : List ℕ) → (IsUtf8 bytes → parse_document bytes ≡ None) → document_in bytes ≡ None
document-refused bytes none = by (is_utf8 bytes) refl
  where
    by : (b : Bool) → is_utf8 bytes ≡ b → document_in bytes ≡ None
    by true e = ap (λ (b : Bool). cond b (parse_document bytes) None) e ∙ none (IsUtf8-from_is_utf8 bytes e)
    by false e = ap (λ (b : Bool). cond b (parse_document bytes) None) e
