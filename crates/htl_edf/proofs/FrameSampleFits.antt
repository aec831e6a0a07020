-- The tables of the tests of frames are within their ranges, and keep the form rules and the limits of frames.
use Rattle.std.proofs.Common.{eqb, not, option_map, codes, ◌⊎◌, ◌≡◌, ◌≢◌, ◌∙◌, ℕ, zero, suc, ◌*◌, ◌%◌, ◌≤◌, ◌<◌, Bool, true, false, ◌&&◌, List, [], ◌∷◌, length, Option, Some, None, refl, sym, ap, subst, arith, inl, inr}
use Rattle.htl_edf.proofs.Words.{count_by, IsNonDecreasing, All-nil, All-cons, count_by-le-length, Ty, Comm, Mode, Module, Task, Inv, breach, BreaksAt, input_types, output_types, end_type, type_number, is_sensor, KeptApart, Leads, direct, through, feeds, feeds_at, AreInRange, IsSpan, IsCommInRange, IsModeInRange, IsModuleInRange, IsPortInRange, IsTaskInRange, IsInvInRange, IsSwitchInRange, IsFunInRange, IsEndInRange, mode_period, comm_period, task_worst, task_is_abstract, mode_module, frame_comm, frame_mode, frame_task, frame_inv, frame_comms, frame_modes, frame_modules, frame_tasks, frame_invs, frame_sample_of, frame_sample, IsFramed, same_Some, slice_get}
use Rattle.htl_base.specs.declared.Ty.TheVariants as ty
use Rattle.htl_model.specs.declared.parts.End.{End}
use Rattle.htl_model.specs.declared.parts.End.TheVariants as E
use Rattle.htl_model.specs.FormRules.{FormRule, ModulePeriod, FrameLimits, Divides, Offsets, Ends, Windows, WorstCases, PortCycles, Sensors, ConcreteWriters, AbstractPlaces, Parents, SharedParents, Inheritance, number_of, Part, Itself, Input, Output, Test}

nothing_falls : IsNonDecreasing []
nothing_falls i j d l b = absurd (omega arith)

-- two numbers, the second no less
two_rise : (a b : ℕ) → a ≤ b → IsNonDecreasing (a ∷ b ∷ [])
two_rise a b h zero (suc zero) d l k = h
two_rise a b h zero (suc (suc j)) d l k = absurd (omega arith)
two_rise a b h (suc i) zero d l k = absurd (omega arith)
two_rise a b h (suc zero) (suc (suc j)) d l k = absurd (omega arith)
two_rise a b h (suc (suc i)) (suc j) d l k = absurd (omega arith)
two_rise a b h _ _ d l k = omega arith

few_in_mode : (m : ℕ) → count_by (λ i. eqb i.mode m) frame_invs ≤ 128
few_in_mode m = let most = count_by-le-length (λ (i : Inv). eqb i.mode m) frame_invs in omega (arith, most)

module _ (w : ℕ) (span : IsSpan w) where
  mode_in_range : (owner period : ℕ) → owner < 2 → IsSpan period → IsModeInRange (frame_sample w) (frame_mode (codes "m") owner period)
  mode_in_range owner period l p = record { owner = l; period = p }

  task_in_range : (name : List ℕ) (owner worst : ℕ) → owner < 2 → IsSpan worst → IsTaskInRange (frame_sample w) (frame_task name owner worst)
  task_in_range name owner worst l p = record { owner = l; worst = p; few_inputs = omega arith; few_outputs = omega arith }

  inv_in_range : (mode comm instance : ℕ) (k : Task) → mode < 2 → slice_get (frame_tasks w) mode ≡ Some k → k.«module» ≡ mode_module (frame_sample w) mode → comm < 2 → instance ≤ 1000000
      → IsInvInRange (frame_sample w) (frame_inv mode comm instance)
  inv_in_range mode comm instance k l at owner c n = record {
    owner = l;
    task = (k, at, owner);
    parent = tt;
    reads = All-cons (IsEndInRange (frame_sample w) mode) (E.Comm 0 0) [] (omega arith, omega arith) (All-nil (IsEndInRange (frame_sample w) mode));
    writes = All-cons (IsEndInRange (frame_sample w) mode) (E.Comm comm instance) [] (c, n) (All-nil (IsEndInRange (frame_sample w) mode));
    few_reads = omega arith;
    few_writes = omega arith;
  }

  module_in_range : (k : ℕ) (x : Module) → slice_get frame_modules k ≡ Some x → IsModuleInRange (frame_sample w) k x
  module_in_range zero x e = subst (IsModuleInRange (frame_sample w) 0) (same_Some _ _ e) (record { start = (frame_mode (codes "m") 0 10, refl, refl); parent = tt; levels = refl })
  module_in_range (suc zero) x e = subst (IsModuleInRange (frame_sample w) 1) (same_Some _ _ e) (record { start = (frame_mode (codes "m") 1 20, refl, refl); parent = tt; levels = refl })
  module_in_range (suc (suc k)) x e = absurd (cc)

  comm_in_range : (name : List ℕ) → IsCommInRange (frame_comm name)
  comm_in_range name = record { period = record { some = omega arith; most = omega arith }; init = tt }

  pub frame_in_range : AreInRange (frame_sample w)
  frame_in_range =
      let t = frame_sample w in
      record {
        few_comms = omega arith;
        few_modules = omega arith;
        few_modes = omega arith;
        few_ports = omega arith;
        few_tasks = omega arith;
        few_invs = omega arith;
        few_switches = omega arith;
        few_in_mode = few_in_mode;
        comm_names = refl;
        module_names = refl;
        mode_names = refl;
        port_names = refl;
        task_names = refl;
        invoked_once = refl;
        modes_by_module = two_rise 0 1 (omega arith);
        ports_by_mode = nothing_falls;
        tasks_by_module = two_rise 0 1 (omega arith);
        invs_by_mode = two_rise 0 1 (omega arith);
        switches_by_mode = nothing_falls;
        comms =
            All-cons IsCommInRange (frame_comm (codes "u")) (frame_comm (codes "w") ∷ []) (comm_in_range (codes "u"))
            (All-cons IsCommInRange (frame_comm (codes "w")) [] (comm_in_range (codes "w")) (All-nil IsCommInRange));
        modes =
            All-cons (IsModeInRange t) (frame_mode (codes "m") 0 10) (frame_mode (codes "m") 1 20 ∷ []) (mode_in_range 0 10 (omega arith) (record { some = omega arith; most = omega arith }))
            (All-cons (IsModeInRange t) (frame_mode (codes "m") 1 20) [] (mode_in_range 1 20 (omega arith) (record { some = omega arith; most = omega arith })) (All-nil (IsModeInRange t)));
        modules = module_in_range;
        ports = All-nil (IsPortInRange t);
        tasks =
            All-cons (IsTaskInRange t) (frame_task (codes "a") 0 3) (frame_task (codes "b") 1 w ∷ []) (task_in_range (codes "a") 0 3 (omega arith) (record { some = omega arith; most = omega arith }))
            (All-cons (IsTaskInRange t) (frame_task (codes "b") 1 w) [] (task_in_range (codes "b") 1 w (omega arith) span) (All-nil (IsTaskInRange t)));
        invs =
            All-cons (IsInvInRange t) (frame_inv 0 0 1) (frame_inv 1 1 2 ∷ []) (inv_in_range 0 0 1 (frame_task (codes "a") 0 3) (omega arith) refl refl (omega arith) (omega arith))
            (All-cons (IsInvInRange t) (frame_inv 1 1 2) [] (inv_in_range 1 1 2 (frame_task (codes "b") 1 w) (omega arith) refl refl (omega arith) (omega arith)) (All-nil (IsInvInRange t)));
        switches = All-nil (IsSwitchInRange t);
        functions = All-nil IsFunInRange;
        function_count = refl;
      }

-- the tables of equal lists
pub frame_sample_is : (w : ℕ) (cs : List Comm) (ms : List Mode) (us : List Module) (ks : List Task) (is : List Inv) → cs ≡ frame_comms → ms ≡ frame_modes → us ≡ frame_modules → ks ≡ frame_tasks w → is ≡ frame_invs
    → frame_sample_of cs ms us ks is ≡ frame_sample w
frame_sample_is w cs ms us ks is c m u k i =
    ap (λ (xs : List Comm). frame_sample_of xs ms us ks is) c ∙ ap (λ (xs : List Mode). frame_sample_of frame_comms xs us ks is) m
    ∙ ap (λ (xs : List Module). frame_sample_of frame_comms frame_modes xs ks is) u ∙ ap (λ (xs : List Task). frame_sample_of frame_comms frame_modes frame_modules xs is) k
    ∙ ap (λ (xs : List Inv). frame_sample_of frame_comms frame_modes frame_modules (frame_tasks w) xs) i

-- ---- the form rules

-- what the tables tell of a task, and of the communicator that it writes
record CallFacts : Type 0 where
  period : ℕ
  type : Option Ty
  sensor : Bool
  inputs : List Ty
  outputs : List Ty
  abstract : Bool

abbrev facts_of_call : ℕ → ℕ → ℕ → ℕ → CallFacts
facts_of_call w task comm instance =
    record {
      period = comm_period (frame_sample w) comm;
      type = end_type (frame_sample w) (E.Comm comm instance);
      sensor = is_sensor (frame_sample w) comm;
      inputs = input_types (frame_sample w) task;
      outputs = output_types (frame_sample w) task;
      abstract = task_is_abstract (frame_sample w) task;
    }

-- an abstract task from int to int, and a communicator of period 10
abbrev plain_int_call : CallFacts
plain_int_call = record { period = 10; type = Some ty.Int; sensor = false; inputs = ty.Int ∷ []; outputs = ty.Int ∷ []; abstract = true }

-- what an invocation is: of a mode and the task of the same number, with these facts
record IsCall (w : ℕ) (i : Inv) : Type 0 where
  mode : ℕ
  comm : ℕ
  instance : ℕ
  is : frame_inv mode comm instance ≡ i
  some : 0 < mode_period (frame_sample w) mode
  last : instance * comm_period (frame_sample w) comm ≡ mode_period (frame_sample w) mode
  read_divides : mode_period (frame_sample w) mode % comm_period (frame_sample w) 0 ≡ 0
  divides : mode_period (frame_sample w) mode % comm_period (frame_sample w) comm ≡ 0
  facts : facts_of_call w mode comm instance ≡ plain_int_call
  worst : task_worst (frame_sample w) mode ≤ mode_period (frame_sample w) mode

module _ (w : ℕ) (small : w ≤ 20) where
  call_at : (k : ℕ) (i : Inv) → slice_get frame_invs k ≡ Some i → IsCall w i
  call_at zero i e = record {
    mode = 0;
    comm = 0;
    instance = 1;
    is = same_Some _ _ e;
    some = omega arith;
    last = refl;
    read_divides = refl;
    divides = refl;
    facts = refl;
    worst = omega arith;
  }
  call_at (suc zero) i e = record {
    mode = 1;
    comm = 1;
    instance = 2;
    is = same_Some _ _ e;
    some = omega arith;
    last = refl;
    read_divides = refl;
    divides = refl;
    facts = refl;
    worst = small;
  }
  call_at (suc (suc k)) i e = cc

  -- no port is read, so nothing leads anywhere
  no_feeds : (x y : ℕ) → feeds (frame_sample w) x y ≡ true → ⊥
  no_feeds x y h = by (slice_get frame_invs x) (slice_get frame_invs y) refl h
    where
      none : (a : Bool) → (a && false) ≡ true → ⊥
      none true e = cc
      none false e = cc

      by : (o p : Option Inv) → slice_get frame_invs y ≡ p → feeds_at o p ≡ true → ⊥
      by None p at h = cc
      by (Some i) None at h = cc
      by (Some i) (Some j) at h =
          let call = call_at y j at in
          none _ (ap (λ (z : Inv). feeds_at (Some i) (Some z)) call.is ∙ h)

  no_leads : (x y : ℕ) → Leads (feeds (frame_sample w)) x y → ⊥
  no_leads x y (direct _ _ h) = no_feeds x y h
  no_leads x y (through _ z _ p q) = no_leads x z p

  by_mode : (r : FormRule) (m : ℕ) (x : Mode) (have need : ℕ) → (number_of r ≡ 2 → ⊥) → slice_get frame_modes m ≡ Some x → (breach (frame_sample w) r).mode m x have need → ⊥
  by_mode ModulePeriod zero x have need other at h =
      let g = subst (λ (y : Mode). (breach (frame_sample w) ModulePeriod).mode 0 y have need) (sym (same_Some (frame_mode (codes "m") 0 10) x at)) h in
      g.2 (g.0 ∙ same_Some 10 need g.1)
  by_mode ModulePeriod (suc zero) x have need other at h =
      let g = subst (λ (y : Mode). (breach (frame_sample w) ModulePeriod).mode 1 y have need) (sym (same_Some (frame_mode (codes "m") 1 20) x at)) h in
      g.2 (g.0 ∙ same_Some 20 need g.1)
  by_mode ModulePeriod (suc (suc m)) x have need other at h = cc
  by_mode FrameLimits m x have need other at h = other refl
  by_mode _ m x have need other at h = h

  -- the rules on an invocation as a whole
  by_call : (r : FormRule) (k : ℕ) (i : Inv) (c : IsCall w i) (have need : ℕ) → number_of r ≤ 12 → (breach (frame_sample w) r).inv k (frame_inv c.mode c.comm c.instance) have need → ⊥
  by_call Ends k i c have need l h =
      elim h [
        | inl x ↦ x.2 (x.0 ∙ sym (x.1 ∙ ap (λ (a : CallFacts). length a.inputs) c.facts))
        | inr x ↦ x.3 (x.1 ∙ sym (x.2 ∙ ap (λ (a : CallFacts). length a.outputs) c.facts))
      ]
  by_call Windows k i c have need l h = omega (arith, h.0, h.1, h.2, c.last, c.some)
  by_call WorstCases k i c have need l h = omega (arith, h.0, h.1, h.2, c.worst)
  by_call PortCycles k i c have need l h = no_leads k k h.0
  by_call AbstractPlaces k i c have need l h = omega (arith, l)
  by_call Parents k i c have need l h = omega (arith, l)
  by_call SharedParents k i c have need l h = omega (arith, l)
  by_call Inheritance k i c have need l h = omega (arith, l)
  by_call _ k i c have need l h = h

  divided : (m c have need : ℕ) → 0 < mode_period (frame_sample w) m → mode_period (frame_sample w) m % comm_period (frame_sample w) c ≡ 0 → comm_period (frame_sample w) c ≡ 10
      → have ≡ comm_period (frame_sample w) c → need ≡ mode_period (frame_sample w) m → (have ≡ 0) ⊎ (need % have ≢ 0) → ⊥
  divided m c have need some divides known e f (inl z) = omega (arith, z, e, known)
  divided m c have need some divides known e f (inr z) = z (ap (λ x. x % have) f ∙ ap (λ x. mode_period (frame_sample w) m % x) e ∙ divides)

  -- the rules on an input, and on an output
  by_input : (r : FormRule) (k : ℕ) (i : Inv) (c : IsCall w i) (have need : ℕ) → number_of r ≤ 12 → (breach (frame_sample w) r).input k (frame_inv c.mode c.comm c.instance) 0 (E.Comm 0 0) have need → ⊥
  by_input Divides k i c have need l h = divided c.mode 0 have need c.some c.read_divides refl h.0 h.1 h.2
  by_input Offsets k i c have need l h = omega (arith, h.0, h.1, h.2, c.some)
  by_input Ends k i c have need l h =
      h.2 (sym (same_Some 0 have h.0) ∙ same_Some 0 need (sym (ap (λ (a : CallFacts). option_map type_number (slice_get a.inputs 0)) c.facts) ∙ h.1))
  by_input Inheritance k i c have need l h = omega (arith, l)
  by_input _ k i c have need l h = h

  by_output : (r : FormRule) (k : ℕ) (i : Inv) (c : IsCall w i) (have need : ℕ) → number_of r ≤ 12
      → (breach (frame_sample w) r).output k (frame_inv c.mode c.comm c.instance) 0 (E.Comm c.comm c.instance) have need → ⊥
  by_output Divides k i c have need l h = divided c.mode c.comm have need c.some c.divides (ap (λ (a : CallFacts). a.period) c.facts) h.0 h.1 h.2
  by_output Offsets k i c have need l h =
      elim h.2 [
        | inl z ↦ omega (arith, z, h.0, c.last, c.some)
        | inr z ↦ omega (arith, z, h.0, h.1, c.last)
      ]
  by_output Ends k i c have need l h =
      h.2 (sym (same_Some 0 have (sym (ap (λ (a : CallFacts). option_map type_number a.type) c.facts) ∙ h.0)) ∙ same_Some 0 need (sym (ap (λ (a : CallFacts). option_map type_number (slice_get a.outputs 0)) c.facts) ∙ h.1))
  by_output Sensors k i c have need l h = let no : true ≡ false = sym h.2 ∙ ap (λ (a : CallFacts). a.sensor) c.facts in cc
  by_output ConcreteWriters k i c have need l h = let no : false ≡ true = sym (ap (λ (a : CallFacts). not a.abstract) c.facts) ∙ h.1 in cc
  by_output _ k i c have need l h = h

  one_end : (e f : End) (j : ℕ) → slice_get (e ∷ []) j ≡ Some f → (j ≡ 0) × (e ≡ f)
  one_end e f zero at = (refl, same_Some _ _ at)
  one_end e f (suc j) at = absurd (cc)

  broken : (r : FormRule) (m : ℕ) (x : Mode) (o : Option ℕ) (p : Part) (have need : ℕ) → number_of r ≤ 12 → (number_of r ≡ 2 → ⊥) → slice_get frame_modes m ≡ Some x
      → BreaksAt (frame_sample w) (breach (frame_sample w) r) m x o p have need → ⊥
  broken r m x None Itself have need l other at h = by_mode r m x have need other at h
  broken r m x None (Test v j) have need l other at h = absurd (let no = h.1 in cc)
  broken r m x (Some k) Itself have need l other at h =
      let call = call_at k h.0 h.1 in
      by_call r k h.0 call have need l (subst (λ (z : Inv). (breach (frame_sample w) r).inv k z have need) (sym call.is) h.3)
  broken r m x (Some k) (Input j) have need l other at h =
      let call = call_at k h.0 h.1 in
      let end = one_end (E.Comm 0 0) h.3.0 j (ap (λ (z : Inv). slice_get z.reads j) call.is ∙ h.3.1) in
      by_input r k h.0 call have need l
      (subst (λ (z : Inv). (breach (frame_sample w) r).input k z 0 (E.Comm 0 0) have need) (sym call.is)
      (subst (λ (z : End). (breach (frame_sample w) r).input k h.0 0 z have need) (sym end.1)
      (subst (λ (z : ℕ). (breach (frame_sample w) r).input k h.0 z h.3.0 have need) end.0 h.3.2)))
  broken r m x (Some k) (Output j) have need l other at h =
      let call = call_at k h.0 h.1 in
      let end = one_end (E.Comm call.comm call.instance) h.3.0 j (ap (λ (z : Inv). slice_get z.writes j) call.is ∙ h.3.1) in
      by_output r k h.0 call have need l
      (subst (λ (z : Inv). (breach (frame_sample w) r).output k z 0 (E.Comm call.comm call.instance) have need) (sym call.is)
      (subst (λ (z : End). (breach (frame_sample w) r).output k h.0 0 z have need) (sym end.1)
      (subst (λ (z : ℕ). (breach (frame_sample w) r).output k h.0 z h.3.0 have need) end.0 h.3.2)))
  broken r m x (Some k) (Test v j) have need l other at h = h.3
  broken r m x None _ have need l other at h = h

  keeps : KeptApart (frame_sample w) 12
  keeps r s have need l other h = broken r s.mode h.0 s.inv s.part have need l other h.1 h.2

  pub frame_is_framed : IsFramed (frame_sample w)
  frame_is_framed = record { limits = refl; formed = keeps; path = omega arith }
