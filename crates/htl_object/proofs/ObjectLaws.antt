-- The laws of objects, from those of the lists of a file.
use Rattle.std.proofs.Common.{◌≡◌, ℕ, true, List, length, All, Option, Some, None, Ok, Err, refl, sym, ap, subst, ◌∙◌}
use Rattle.htl_object.proofs.Words.{All-map, FitsSigned, w64, is_name, EInstr, Compiled, Code, Comm, Mode, Module, Port, Task, Schedule, AreAnchors, IsFileInRange, file_bytes, first_bad, fault_of, malformed_at, whole_at, IsSchedule, Is32, IsComm, IsMode, IsModule, IsPort, IsTask, IsCode, IsEInstr, IsSInstr, IsFInstr, OneSpelling, OneObject, NoBadField, SaysItself, object_of_lists, lists_of, HasWidths, KeepsFunction, KeepsTypes, IsObject, object_bytes, object_or, object_in, object_at, IsDecoded, IsReadAs, DecodeFault, Anchors, Lists, Bad, Malformed, Object}
use Rattle.htl_ecode.specs.declared.instr.EInstr.TheVariants as I
use Rattle.htl_object.proofs.{Each.all_of, FileLaws.whole-again, FileLaws.whole-takes, FileLaws.one-file, FileLaws.no-bad-field, FileRanges.file_in_range, Listed.lists_again, Listed.object_again, Lawful.given-value}
use Rattle.htl_object.proofs.ObjectRange.{lists_are_object}
use Rattle.htl_object.specs.Reading.{IsBytes, Read, ◌>>=◌}
use Rattle.htl_object.specs.declared.decoding.DecodeFault.TheVariants as fault

-- ---- what is read keeps its types

has_widths : (i : EInstr) → IsEInstr i → HasWidths i
has_widths (I.Future d p x) h = (h.0, h.1.1)
has_widths I.Leave h = tt
has_widths I.Return h = tt
has_widths _ h = h

keeps_types : (l : Lists) → IsFileInRange l → KeepsTypes (object_of_lists l)
keeps_types l h =
    record {
      comms = all_of IsComm (λ (y : Comm). (is_name y.name ≡ true) × FitsSigned w64 y.init) l.comms (λ b c f. (f.name, f.width)) h.front.comms;
      modes = all_of (IsMode (length l.modules)) (λ (y : Mode). is_name y.name ≡ true) l.modes (λ b m f. f.name) h.front.modes;
      modules = all_of (IsModule l.modes) (λ (y : Module). is_name y.name ≡ true) l.modules (λ b m f. f.name) h.front.modules;
      ports = all_of (IsPort (length l.modes)) (λ (y : Port). is_name y.name ≡ true) l.ports (λ b m f. f.name) h.front.ports;
      tasks = all_of (IsTask (length l.modules)) (λ (y : Task). is_name y.name ≡ true) l.tasks (λ b m f. f.name) h.front.tasks;
      functions = All-map KeepsFunction (λ (c : Code). Compiled c) l.functions (all_of (λ _. IsCode) (λ (c : Code). All IsFInstr c.instrs) l.functions (λ b c f. all_of (λ _. IsFInstr) IsFInstr c.instrs (λ b i g. g) f.instrs) h.front.functions);
      enter = All-map Is32 (λ (a : Anchors). a.enter) l.anchors (all_of (λ _. AreAnchors) (λ (a : Anchors). Is32 a.enter) l.anchors (λ b a f. f.enter) h.front.anchors);
      begin = All-map Is32 (λ (a : Anchors). a.begin) l.anchors (all_of (λ _. AreAnchors) (λ (a : Anchors). Is32 a.begin) l.anchors (λ b a f. f.begin) h.front.anchors);
      decide = All-map Is32 (λ (a : Anchors). a.decide) l.anchors (all_of (λ _. AreAnchors) (λ (a : Anchors). Is32 a.decide) l.anchors (λ b a f. f.decide) h.front.anchors);
      instrs = all_of (λ _. IsEInstr) HasWidths l.instrs (λ b i f. has_widths i f) h.front.instrs.1;
      schedules = all_of (λ _. IsSchedule) (λ (s : Schedule). All IsSInstr s.instrs) l.schedules (λ b s f. all_of (λ _. IsSInstr) IsSInstr s.instrs (λ b i g. g) f.1) h.schedules;
      platform = h.front.platform;
    }

-- the object of lists in range is in range, and has their bytes
pub object_found : (bytes : List ℕ) (l : Lists) (o : Object) → IsFileInRange l → bytes ≡ file_bytes l → o ≡ object_of_lists l → IsObject o × (bytes ≡ object_bytes o)
object_found bytes l o h e is =
    let there : IsObject (object_of_lists l) × (bytes ≡ object_bytes (object_of_lists l)) = (record { types = keeps_types l h; ranges = lists_are_object l h }, e ∙ ap file_bytes (sym (lists_again l h))) in
    subst (λ (x : Object). IsObject x × (bytes ≡ object_bytes x)) (sym is) there

-- ---- the laws

pub one_object : OneObject
one_object o p f g e =
    sym (object_again o f.ranges) ∙ ap object_of_lists (one-file (lists_of o) (lists_of p) (file_in_range o f) (file_in_range p g) e) ∙ object_again p g.ranges

pub says_itself : SaysItself
says_itself o f = ap (object_or (object_bytes o)) (whole-again (lists_of o) (file_in_range o f)) ∙ ap (λ (x : Object). Ok x) (object_again o f.ranges)

pub one_spelling : OneSpelling
one_spelling bytes are o e = by (whole_at bytes) refl e
  where
    by : (r : Read Lists) → whole_at bytes ≡ r → object_or bytes r ≡ Ok o → IsObject o × (bytes ≡ object_bytes o)
    by (Ok x) is f =
        let t = whole-takes bytes x.0 x.1 are is in
        let same : object_of_lists x.0 ≡ o = cc in
        object_found bytes x.0 o t.0 t.1 (sym same)
    by (Err bad) is f = absurd cc

pub no_bad_field : NoBadField
no_bad_field bytes are = (
  λ e. let f = (no-bad-field bytes are).0 e in let g = object_found bytes f.0 (object_of_lists f.0) f.1 f.2 refl in (object_of_lists f.0, g.0, g.1),
  λ f. (no-bad-field bytes are).1 (lists_of f.0, file_in_range f.0 f.1, f.2),
)

-- ---- what decoding answers

none-some : (m : Malformed) → ◌≡◌ {A = Option Malformed} None (Some m) → ⊥
none-some m e = cc

-- an object that is read of bytes is the one that they say
pub object_said : (bytes : List ℕ) (o : Object) (rest : List ℕ) → object_at bytes ≡ Ok (o, rest) → object_in bytes ≡ Ok o
object_said bytes o rest e = by (whole_at bytes) e
  where
    by : (r : Read Lists) → (r >>= λ l s. Ok (object_of_lists l, s)) ≡ Ok (o, rest) → object_or bytes r ≡ Ok o
    by (Ok x) said = ap (λ (p : Object). Ok p) (given-value (object_of_lists x.0) o x.1 rest said).0
    by (Err bad) said = absurd cc

-- and the bad field that stops it is the first
pub fault_said : (bytes : List ℕ) (bad : Bad) → object_at bytes ≡ Err bad → first_bad bytes ≡ Some (malformed_at bytes bad)
fault_said bytes bad e = by (whole_at bytes) e
  where
    by : (r : Read Lists) → ◌≡◌ {A = Read Object} (r >>= λ l s. Ok (object_of_lists l, s)) (Err bad) → fault_of bytes r ≡ Some (malformed_at bytes bad)
    by (Ok x) said = absurd cc
    by (Err other) said = let same : other ≡ bad = cc in ap (λ (b : Bad). Some (malformed_at bytes b)) same

-- the bytes of an object in range are refused only for want of memory
pub not_refused : (bytes : List ℕ) (f : DecodeFault) → IsBytes bytes → IsDecoded bytes (Err f) → (o : Object) → IsObject o → bytes ≡ object_bytes o → IsReadAs o (Err f)
not_refused bytes (fault.Malformed m) are read o h e = absurd (none-some m (sym ((no_bad_field bytes are).1 (o, h, e)) ∙ read))
not_refused bytes fault.Memory are read o h e = tt
