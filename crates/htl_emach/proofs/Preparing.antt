-- What stands before an instruction or a call: operands, modules, arguments.
use Rattle.std.proofs.Common.{◌≡◌, ℕ, zero, suc, ◌+◌, ◌<◌, Bool, true, false, cond, not, eqb, List, [], ◌∷◌, ◌++◌, length, get_or, slice_get, set, take, Option, Some, None, ℤ, pos, refl, sym, ap, ◌∙◌, subst, arith}
use Rattle.htl_emach.proofs.Words.{length-set, Ty, Comm, Switch, FitsType, is_zero, numbered, Tables, Fun, Formula, Compiled, function_value, switch_function, FunctionType, comm_type, switch_type, IsFunctionOf, FitPlaces, switch_holds, switch_types_at, AreArguments, ECode, EInstr, holds_in, Block, Trigger, Content, HasRoom, HasValues, Applies, comm_types, values_at, Calendar, Standing, HasModule, with_trigger, taken, taken_by, first_due, triggers_of, Fits, IsReady, none-some}
use Rattle.htl_base.specs.declared.Ty.TheVariants as ty
use Rattle.htl_ecode.specs.declared.instr.EInstr.TheVariants as I

-- ---- operands

pub fits_room : (t : Tables) (c : Calendar) (w : Content) (i : EInstr) → Fits t c w i → HasRoom t w i
fits_room t c w (I.JumpIf a b) h = tt
fits_room t c w (I.Fork a) h = tt
fits_room t c w _ h = h

pub fits_switch : (t : Tables) (c : Calendar) (w : Content) (i : EInstr) → Fits t c w i → (k x : ℕ) → i ≡ I.JumpIf k x → k < length t.switches
fits_switch t c w i h k x e = subst (Fits t c w) e h

pub fits_fork : (t : Tables) (c : Calendar) (w : Content) (i : EInstr) → Fits t c w i → (k : ℕ) → i ≡ I.Fork k → HasModule c k
fits_fork t c w i h k e = subst (Fits t c w) e h

-- ---- modules

module_trigger_set : (phase k : ℕ) (x : Option Trigger) (c : Calendar) (j : ℕ) → HasModule c j → HasModule (with_trigger phase k x c) j
module_trigger_set phase k x c j h = by_test (eqb phase 1) (eqb phase 2)
  where
    longer : {A : Type 0} (xs : List A) (y : A) → j < length xs → j < length (set xs k y)
    longer xs y b = subst (λ n. j < n) (sym (length-set xs k y)) b

    by_test : (a b : Bool) → HasModule (cond a (record c { writes = set c.writes k x }) (cond b (record c { switches = set c.switches k x }) (record c { reads = set c.reads k x }))) j
    by_test true b = record { modes = h.modes; writes = longer c.writes x h.writes; switches = h.switches; reads = h.reads }
    by_test false true = record { modes = h.modes; writes = h.writes; switches = longer c.switches x h.switches; reads = h.reads }
    by_test false false = record { modes = h.modes; writes = h.writes; switches = h.switches; reads = longer c.reads x h.reads }

pub module_taken : (phase at : ℕ) (m : Standing) (j : ℕ) → HasModule m.calendar j → HasModule (taken phase at m) j
module_taken phase at m j h = by_running m.running (first_due at 0 (triggers_of phase m.calendar))
  where
    by_running : (r : Option Block) (f : Option (ℕ × ℕ)) → HasModule (elim r [ Some b ↦ m.calendar | None ↦ taken_by phase f m.calendar ]) j
    by_running (Some b) f = h
    by_running None None = h
    by_running None (Some p) = module_trigger_set phase p.0 None m.calendar j h

fits_taken : (t : Tables) (m : Standing) (w : Content) (phase at : ℕ) (i : EInstr) → Fits t m.calendar w i → Fits t (taken phase at m) w i
fits_taken t m w phase at (I.Fork a) h = module_taken phase at m a h
fits_taken t m w phase at _ h = h

pub ready_taken : (t : Tables) (code : ECode) (m : Standing) (w : Content) (phase at : ℕ) (b : Block) → IsReady t code m.calendar w b → IsReady t code (taken phase at m) w b
ready_taken t code m w phase at b h =
    record {
      «module» = module_taken phase at m b.«module» h.«module»;
      stands = h.stands;
      fits = λ i e. fits_taken t m w phase at i (h.fits i e);
    }

-- ---- arguments

-- values of communicators are of their types
pub values_fit : (t : Tables) (values : List ℤ) → HasValues t values → (cs : List ℕ) → AreArguments (comm_types t cs) (values_at values cs)
values_fit t values h [] = record { count = refl; fit = λ k type e. absurd (none-some type e) }
values_fit t values h (c ∷ cs) =
    let rest = values_fit t values h cs in
    record { count = ap suc rest.count; fit = by_place rest }
  where
    here : (o : Option Comm) → slice_get t.comms c ≡ o → FitsType (elim o [ Some x ↦ x.ty | None ↦ ty.Int ]) (get_or values c (pos 0))
    here (Some x) e = h.fit c x e
    here None e = tt

    by_place : AreArguments (comm_types t cs) (values_at values cs) → (k : ℕ) (type : Ty) → slice_get (comm_types t (c ∷ cs)) k ≡ Some type → FitsType type (get_or (values_at values (c ∷ cs)) k (pos 0))
    by_place rest zero type e = let same : comm_type t c ≡ type = cc in subst (λ y. FitsType y (get_or values c (pos 0))) same (here (slice_get t.comms c) refl)
    by_place rest (suc k) type e = rest.fit k type e

-- a function of this type takes arguments of its types
pub typed_applies : (f : FunctionType) (g : Fun) (args : List ℤ) → IsFunctionOf f g → AreArguments f.args args → Applies g args
typed_applies f (Formula first e) args h a = absurd h
typed_applies f (Compiled c) args h a = (h.verified, subst (λ ts. AreArguments ts args) (sym h.args) a)

pub switch_applies : (t : Tables) (values args : List ℤ) (n : ℕ) (x : Switch) → FitPlaces t → HasValues t values → slice_get t.switches n ≡ Some x → args ≡ values_at values x.reads →
    (g : Fun) → slice_get t.functions (switch_function t n) ≡ Some g → Applies g args
switch_applies t values args n x code h at same g is =
    typed_applies (switch_type t x) g args (code (switch_function t n) (switch_type t x) g (switch_types_at t n x at) is) (subst (AreArguments (comm_types t x.reads)) (sym same) (values_fit t values h x.reads))

pub switch_known : (t : Tables) (values args : List ℤ) (n : ℕ) (x : Switch) (b : Bool) → slice_get t.switches n ≡ Some x → args ≡ values_at values x.reads →
    b ≡ not (is_zero (function_value t (switch_function t n) args)) → b ≡ holds_in t values n
switch_known t values args n x b at same e =
    e
    ∙ ap (λ zs. not (is_zero (function_value t (switch_function t n) zs))) same
    ∙ sym (ap (λ (o : Option Switch). elim o as (λ _. Bool) [ Some w ↦ switch_holds t values n w | None ↦ false ]) at)

-- ---- lists

pub numbered_more : {A : Type 0} (n : ℕ) (xs : List A) (k : ℕ) (d : A) → k < length xs → numbered n (take (suc k) xs) ≡ numbered n (take k xs) ++ (n + k, get_or xs k d) ∷ []
numbered_more n [] k d h = absurd (omega arith)
numbered_more n (x ∷ xs) zero d h = ap (λ m. (m, x) ∷ []) (omega arith)
numbered_more n (x ∷ xs) (suc k) d h =
    ap (λ zs. (n, x) ∷ zs) (numbered_more (suc n) xs k d (omega arith) ∙ ap (λ m. numbered (suc n) (take k xs) ++ (m, get_or xs k d) ∷ []) (omega arith))
