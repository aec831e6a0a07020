-- The form rules say nothing of functions: tables break the same rules whatever functions they have.
use Rattle.std.proofs.Common.{arith, ◌≡◌, ◌≤◌, ◌<◌, ◌⊎◌, ℕ, ◌*◌, List, [], ◌∷◌, Option, Some, None, refl, sym, ◌∙◌, ap, subst, inl, inr}
use Rattle.htl_model.proofs.Words.{Ty, Inv, Mode, End, Breach, breach, PartBreaks, ModeBreaks, BreaksAt, Broken, Formed, IsFirstBroken, site_of, FormFault, ReadLate, WriteOutside, TypeDiffers, WindowEmpty, AbstractRead, SensorWritten, input_types, output_types, FormRule, FrameLimits, Divides, Offsets, Ends, Windows, PortWriters, PortCycles, AbstractPorts, Sensors, ConcreteWriters, AbstractPlaces, Parents, SharedParents, Inheritance, Part, Itself, Input, Output, Test, Site, FrameExceeds, EndNotDivided, IsOnCycle, AreOnCycles, InCycle, Unwritten, Rewritten, IsRefined, StandsUnrefined, IsAbstractIn, ParentAstray, ParentFault, SharesParent, SecondChild, AsksMore, Exceeds, IsWriterOf, Unordered, OnPath, itself, above, AreSameWrite, WritesBefore, SecondWriter, Tables, Fun, comm_period, mode_period, task_worst, offsets, release, window_end, greatest, least_or, with_functions, frame_limit}
use Rattle.htl_model.specs.declared.parts.End.TheVariants as E
use Rattle.htl_model.proofs.FrameLists.{limit_framed}

-- ---- windows

pub offsets_same : (t : Tables) (fs gs : List Fun) (ends : List End) → offsets (with_functions t fs) ends ≡ offsets (with_functions t gs) ends
offsets_same t fs gs [] = refl
offsets_same t fs gs (E.Port p ∷ ends) = offsets_same t fs gs ends
offsets_same t fs gs (E.Comm c n ∷ ends) = ap (λ (os : List ℕ). n * comm_period t c ∷ os) (offsets_same t fs gs ends)

pub release_same : (t : Tables) (fs gs : List Fun) (i : Inv) → release (with_functions t fs) i ≡ release (with_functions t gs) i
release_same t fs gs i = ap (greatest 0) (offsets_same t fs gs i.reads)

pub window_end_same : (t : Tables) (fs gs : List Fun) (i : Inv) → window_end (with_functions t fs) i ≡ window_end (with_functions t gs) i
window_end_same t fs gs i = ap (least_or (mode_period t i.mode)) (offsets_same t fs gs i.writes)

module _ (t : Tables) (fs gs : List Fun) where
  -- ---- ends

  divided : (i : Inv) (e : End) (have need : ℕ) → EndNotDivided (with_functions t fs) i e have need → EndNotDivided (with_functions t gs) i e have need
  divided i (E.Comm c n) have need h = h
  divided i (E.Port p) have need h = h

  read_late : (i : Inv) (e : End) (have need : ℕ) → ReadLate (with_functions t fs) i e have need → ReadLate (with_functions t gs) i e have need
  read_late i (E.Comm c n) have need h = h
  read_late i (E.Port p) have need h = h

  write_outside : (i : Inv) (e : End) (have need : ℕ) → WriteOutside (with_functions t fs) i e have need → WriteOutside (with_functions t gs) i e have need
  write_outside i (E.Comm c n) have need h = h
  write_outside i (E.Port p) have need h = h

  type_differs : (types : List Ty) (j : ℕ) (e : End) (have need : ℕ) → TypeDiffers (with_functions t fs) types j e have need → TypeDiffers (with_functions t gs) types j e have need
  type_differs types j (E.Comm c n) have need h = h
  type_differs types j (E.Port p) have need h = h

  unwritten : (e : End) (have need : ℕ) → Unwritten (with_functions t fs) e have need → Unwritten (with_functions t gs) e have need
  unwritten (E.Comm c n) have need h = h
  unwritten (E.Port p) have need h = h

  rewritten : (k : ℕ) (i : Inv) (j : ℕ) (e : End) (have need : ℕ) → Rewritten (with_functions t fs) k i j e have need → Rewritten (with_functions t gs) k i j e have need
  rewritten k i j (E.Comm c n) have need h = h
  rewritten k i j (E.Port p) have need h = h

  abstract_read : (i : Inv) (j : ℕ) (e : End) (have need : ℕ) → AbstractRead (with_functions t fs) i j e have need → AbstractRead (with_functions t gs) i j e have need
  abstract_read i j (E.Comm c n) have need h = h
  abstract_read i j (E.Port p) have need h = grind arith

  sensor_written : (j : ℕ) (e : End) (have need : ℕ) → SensorWritten (with_functions t fs) j e have need → SensorWritten (with_functions t gs) j e have need
  sensor_written j (E.Comm c n) have need h = h
  sensor_written j (E.Port p) have need h = h

  -- ---- invocations

  window_empty : (i : Inv) (have need : ℕ) → WindowEmpty (with_functions t fs) i have need → WindowEmpty (with_functions t gs) i have need
  window_empty i have need h = (h.0 ∙ release_same t fs gs i, h.1 ∙ window_end_same t fs gs i, h.2)

  on_cycle : (m k : ℕ) → IsOnCycle (with_functions t fs) m k → IsOnCycle (with_functions t gs) m k
  on_cycle m k h = record { inv = h.inv; at = h.at; mode = h.mode; cycle = h.cycle }

  refined : (m : ℕ) → IsRefined (with_functions t fs) m → IsRefined (with_functions t gs) m
  refined m h = record { number = h.number; «module» = h.module; at = h.at; refines = h.refines }

  abstract_in : (m p : ℕ) → IsAbstractIn (with_functions t fs) m p → IsAbstractIn (with_functions t gs) m p
  abstract_in m p h = record { parent = h.parent; at = h.at; abstract = h.abstract; mode = h.mode }

  on_path : (a b : ℕ) → OnPath (with_functions t fs) a b → OnPath (with_functions t gs) a b
  on_path a b (itself _) = itself a
  on_path a b (above _ p _ e h) = above a p b e (on_path p b h)

  shares : (k : ℕ) (i : Inv) (p l : ℕ) → SharesParent (with_functions t fs) k i p l → SharesParent (with_functions t gs) k i p l
  shares k i p l h = record { earlier = h.earlier; other = h.other; at = h.at; parent = h.parent; clash = h.clash }

  writer_of : (p a : ℕ) → IsWriterOf (with_functions t fs) p a → IsWriterOf (with_functions t gs) p a
  writer_of p a h = record { number = h.number; writer = h.writer; at = h.at; place = h.place; writes = h.writes; parent = h.parent }

module _ (t : Tables) (fs gs : List Fun) where
  asks_more : (i y : Inv) (have need : ℕ) → AsksMore (with_functions t fs) i y have need → AsksMore (with_functions t gs) i y have need
  asks_more i y have need h = grind (arith, window_end_same, release_same)

  on_cycles : (m : ℕ) (ks : List ℕ) → AreOnCycles (with_functions t fs) m ks → AreOnCycles (with_functions t gs) m ks
  on_cycles m ks h = record { once = h.once; only = λ k c. on_cycle t fs gs m k (h.only k c); all = λ k c. h.all k (on_cycle t gs fs m k c) }

  in_cycle : (k : ℕ) (i : Inv) (have need : ℕ) → InCycle (with_functions t fs) k i have need → InCycle (with_functions t gs) k i have need
  in_cycle k i have need h = (h.0, h.1, h.2, on_cycles i.mode h.2 h.3, h.4)

  stands_unrefined : (i : Inv) (have need : ℕ) → StandsUnrefined (with_functions t fs) i have need → StandsUnrefined (with_functions t gs) i have need
  stands_unrefined i have need h = (h.0, h.1, h.2, λ r. h.3 (refined t gs fs i.mode r))

  same_write : (m o q n : ℕ) → AreSameWrite (with_functions t fs) m o q n → AreSameWrite (with_functions t gs) m o q n
  same_write m o q n (inl h) = inl h
  same_write m o q n (inr h) = inr (h.0, λ x y a b e. h.1 x y (on_path t gs fs m x a) (on_path t gs fs q y b) e)

  writes_before : (k : ℕ) (i : Inv) (j c n l : ℕ) → WritesBefore (with_functions t fs) k i j c n l → WritesBefore (with_functions t gs) k i j c n l
  writes_before k i j c n l h = (h.0, h.1, h.2, h.3, h.4, h.5, h.6, same_write h.0.mode h.4 i.mode n h.7)

  parent_astray : (m : ℕ) (o : Option ℕ) (have : ℕ) → ParentAstray (with_functions t fs) m o have → ParentAstray (with_functions t gs) m o have
  parent_astray m None have h = h
  parent_astray m (Some p) have h = (h.0, λ a. h.1 (abstract_in t gs fs m p a))

  parent_fault : (a b : Option ℕ) (have need : ℕ) → ParentFault (with_functions t fs) a b have need → ParentFault (with_functions t gs) a b have need
  parent_fault (Some m) b have need h = (h.0, parent_astray m b have h.1)
  parent_fault None (Some p) have need h = h
  parent_fault None None have need h = h

  second_child : (k : ℕ) (i : Inv) (have need : ℕ) → SecondChild (with_functions t fs) k i have need → SecondChild (with_functions t gs) k i have need
  second_child k i have need h =
      record { parent = h.parent; shares = shares t fs gs k i need have h.shares; least = λ l less s. h.least l less (shares t gs fs k i need l s) }

  exceeds : (i : Inv) (have need : ℕ) → Exceeds (with_functions t fs) i have need → Exceeds (with_functions t gs) i have need
  exceeds i have need h = (h.0, h.1, h.2, h.3, asks_more i h.2 have need h.4)

  unordered : (i : Inv) (e : End) (have need : ℕ) → Unordered (with_functions t fs) i e have need → Unordered (with_functions t gs) i e have need
  unordered i (E.Comm c n) have need h = h
  unordered i (E.Port p) have need h = (h.0, writer_of t fs gs p have h.1, h.2)

  limit_same : frame_limit (with_functions t fs) ≡ frame_limit (with_functions t gs)
  limit_same = limit_framed (with_functions t fs) ∙ sym (limit_framed (with_functions t gs))

  frame_exceeds : (m : ℕ) (x : Mode) (have need : ℕ) → FrameExceeds (with_functions t fs) m x have need → FrameExceeds (with_functions t gs) m x have need
  frame_exceeds m x have need h = record { first = h.first; limit = sym limit_same ∙ h.limit }

module _ (t : Tables) (fs gs : List Fun) where
  second_writer : (k : ℕ) (i : Inv) (j : ℕ) (e : End) (have need : ℕ) → SecondWriter (with_functions t fs) k i j e have need → SecondWriter (with_functions t gs) k i j e have need
  second_writer k i j (E.Comm c n) have need h =
      (h.0, h.1, writes_before t fs gs k i j c n have h.2, λ l less w. h.3 l less (writes_before t gs fs k i j c n l w))
  second_writer k i j (E.Port p) have need h = h

-- each part of one breach is one of the other
pub record Carries (a b : Breach) : Type 0 where
  pub mode : (m : ℕ) (x : Mode) (have need : ℕ) → a.mode m x have need → b.mode m x have need
  pub inv : (k : ℕ) (i : Inv) (have need : ℕ) → a.inv k i have need → b.inv k i have need
  pub input : (k : ℕ) (i : Inv) (j : ℕ) (e : End) (have need : ℕ) → a.input k i j e have need → b.input k i j e have need
  pub output : (k : ℕ) (i : Inv) (j : ℕ) (e : End) (have need : ℕ) → a.output k i j e have need → b.output k i j e have need
  pub test : (m c have need : ℕ) → a.test m c have need → b.test m c have need

module _ (t : Tables) (fs gs : List Fun) where
  carries : (r : FormRule) → Carries (breach (with_functions t fs) r) (breach (with_functions t gs) r)
  carries FrameLimits = record { mode = frame_exceeds t fs gs; inv = λ k i have need h. h; input = λ k i j e have need h. h; output = λ k i j e have need h. h; test = λ m c have need h. h }
  carries Divides = record { mode = λ m x have need h. h; inv = λ k i have need h. h; input = λ k i j e. divided t fs gs i e; output = λ k i j e. divided t fs gs i e; test = λ m c have need h. h }
  carries Offsets = record { mode = λ m x have need h. h; inv = λ k i have need h. h; input = λ k i j e. read_late t fs gs i e; output = λ k i j e. write_outside t fs gs i e; test = λ m c have need h. h }
  carries Ends =
      record {
        mode = λ m x have need h. h;
        inv = λ k i have need h. h;
        input = λ k i j e. type_differs t fs gs (input_types t i.task) j e;
        output = λ k i j e. type_differs t fs gs (output_types t i.task) j e;
        test = λ m c have need h. h;
      }
  carries Windows = record { mode = λ m x have need h. h; inv = λ k i. window_empty t fs gs i; input = λ k i j e have need h. h; output = λ k i j e have need h. h; test = λ m c have need h. h }
  carries PortWriters = record { mode = λ m x have need h. h; inv = λ k i have need h. h; input = λ k i j e. unwritten t fs gs e; output = rewritten t fs gs; test = λ m c have need h. h }
  carries PortCycles = record { mode = λ m x have need h. h; inv = in_cycle t fs gs; input = λ k i j e have need h. h; output = λ k i j e have need h. h; test = λ m c have need h. h }
  carries AbstractPorts = record { mode = λ m x have need h. h; inv = λ k i have need h. h; input = λ k i j e. abstract_read t fs gs i j e; output = λ k i j e have need h. h; test = λ m c have need h. h }
  carries Sensors = record { mode = λ m x have need h. h; inv = λ k i have need h. h; input = λ k i j e have need h. h; output = λ k i j e. sensor_written t fs gs j e; test = λ m c have need h. h }
  carries ConcreteWriters = record { mode = λ m x have need h. h; inv = λ k i have need h. h; input = λ k i j e have need h. h; output = second_writer t fs gs; test = λ m c have need h. h }
  carries AbstractPlaces = record { mode = λ m x have need h. h; inv = λ k i. stands_unrefined t fs gs i; input = λ k i j e have need h. h; output = λ k i j e have need h. h; test = λ m c have need h. h }
  carries Parents = record { mode = λ m x have need h. h; inv = λ k i. parent_fault t fs gs _ i.parent; input = λ k i j e have need h. h; output = λ k i j e have need h. h; test = λ m c have need h. h }
  carries SharedParents = record { mode = λ m x have need h. h; inv = second_child t fs gs; input = λ k i j e have need h. h; output = λ k i j e have need h. h; test = λ m c have need h. h }
  carries Inheritance = record { mode = λ m x have need h. h; inv = λ k i. exceeds t fs gs i; input = λ k i j e. unordered t fs gs i e; output = λ k i j e have need h. h; test = λ m c have need h. h }
  carries _ = record { mode = λ m x have need h. h; inv = λ k i have need h. h; input = λ k i j e have need h. h; output = λ k i j e have need h. h; test = λ m c have need h. h }

part_carried : (a b : Breach) → Carries a b → (k : ℕ) (i : Inv) (p : Part) (have need : ℕ) → PartBreaks a k i p have need → PartBreaks b k i p have need
part_carried a b c k i Itself have need h = c.inv k i have need h
part_carried a b c k i (Input j) have need h = (h.0, h.1, c.input k i j h.0 have need h.2)
part_carried a b c k i (Output j) have need h = (h.0, h.1, c.output k i j h.0 have need h.2)
part_carried a b c k i (Test l j) have need h = h

mode_carried : (t : Tables) (fs gs : List Fun) (a b : Breach) → Carries a b → (m : ℕ) (x : Mode) (p : Part) (have need : ℕ)
    → ModeBreaks (with_functions t fs) a m x p have need → ModeBreaks (with_functions t gs) b m x p have need
mode_carried t fs gs a b c m x Itself have need h = c.mode m x have need h
mode_carried t fs gs a b c m x (Test l j) have need h = (h.0, h.1, h.2, h.3, h.4, c.test m h.3 have need h.5)
mode_carried t fs gs a b c m x _ have need h = h

at_carried : (t : Tables) (fs gs : List Fun) (a b : Breach) → Carries a b → (m : ℕ) (x : Mode) (o : Option ℕ) (p : Part) (have need : ℕ)
    → BreaksAt (with_functions t fs) a m x o p have need → BreaksAt (with_functions t gs) b m x o p have need
at_carried t fs gs a b c m x None p have need h = mode_carried t fs gs a b c m x p have need h
at_carried t fs gs a b c m x (Some k) p have need h = (h.0, h.1, h.2, part_carried a b c k h.0 p have need h.3)

-- what is broken with some functions is broken with others
pub broken_same : (t : Tables) (fs gs : List Fun) (r : FormRule) (s : Site) (have need : ℕ) → Broken (with_functions t fs) r s have need → Broken (with_functions t gs) r s have need
broken_same t fs gs r s have need h =
    (h.0, h.1, at_carried t fs gs (breach (with_functions t fs) r) (breach (with_functions t gs) r) (carries t fs gs r) s.mode h.0 s.inv s.part have need h.2)

pub formed_same : (t : Tables) (fs gs : List Fun) → Formed (with_functions t fs) → Formed (with_functions t gs)
formed_same t fs gs formed = λ r s have need h. formed r s have need (broken_same t gs fs r s have need h)

pub first_same : (t : Tables) (fs gs : List Fun) (f : FormFault) → IsFirstBroken (with_functions t fs) f → IsFirstBroken (with_functions t gs) f
first_same t fs gs f h =
    record {
      law = h.law;
      part = h.part;
      rule = h.rule;
      «module» = h.«module»;
      broken = broken_same t fs gs h.law (site_of f h.part) f.have f.need h.broken;
      first = λ r s have need before broken. h.first r s have need before (broken_same t gs fs r s have need broken);
    }
