-- What is built is accepted.
use Rattle.std.proofs.Common.{◌≡◌, ◌≤◌, ◌<◌, ℕ, List, length, Option, None, All, sym, subst, arith}
use Rattle.htl_compile.proofs.{CodedLaws.coded_fit, CodedLaws.coded_in_range, CodedLaws.codes_are_code, NodeSchedules.node_lists, NodeSchedules.schedules_short, SamePaths.paths_same, SamePaths.path_jobs_same}
use Rattle.htl_compile.proofs.Words.{layout_phased, node_schedule, schedules, object_for, AreSchedulable, codes, coded, BuiltIsAccepted, layout_departs_not, modes_length, place_room, spells_or_departs, layout, enter_places, mode_place, begin_place, decide_place, Spells, nodes_accepted, ready, tightened, AreReady, NoOverload, kept_12, frames_kept, kept_apart, length-list_to, limits_same, formed_same, Formed, KeepsLimits, nodes, frame_limit, FitPlaces, AreInRange, Tables, IsAccepted, IsFunctionCode, IsInRange, AreFeasible, instrs_of, Job}

-- ---- schedules

pub no_limit : (t : Tables) → AreInRange t → Formed t → frame_limit t ≡ None
no_limit t r formed = frames_kept t 12 r (omega arith) (kept_12 t formed)

pub are_ready : (t : Tables) → AreInRange t → Formed t → AreReady t
are_ready t r formed = ready t r (kept_apart t 12 (kept_12 t formed)) (no_limit t r formed)

feasible : (t : Tables) → AreInRange t → Formed t → AreSchedulable t → AreFeasible t (instrs_of (schedules t))
feasible t r formed free = let paths_are = are_ready t r formed in nodes_accepted t (instrs_of (schedules t)) paths_are free (node_lists t r paths_are)

-- ---- the object of tables with code

few_instrs : (t : Tables) → AreInRange t → length (layout t).instrs ≤ 4294967295
few_instrs t r =
    let n = length t.modes in
    omega (arith, modes_length t (enter_places t n) n, place_room t n r (omega arith))

pub object_accepted : (platform : Option (List ℕ)) (t : Tables) → AreInRange t → KeepsLimits t → Formed t → FitPlaces t → All IsFunctionCode t.functions → AreSchedulable t → IsAccepted (object_for platform t)
object_accepted platform t r limits formed fit code free =
    let n = length t.modes in
    let spells : Spells t (layout t) = (spells_or_departs t (layout t)).1 (layout_departs_not t) in
    let ranges : IsInRange (object_for platform t) =
    record {
      tables = r;
      limits = limits;
      frames = no_limit t r formed;
      coded = code;
      enter = length-list_to (mode_place t) n;
      begin = length-list_to (λ m. begin_place t (mode_place t m) m) n;
      decide = length-list_to (λ m. decide_place t (mode_place t m) m) n;
      phases = layout_phased t;
      few_instrs = few_instrs t r;
      schedules = length-list_to (node_schedule t) (nodes t);
      short = schedules_short t r (no_limit t r formed);
    } in
    record {
      spelled = record { formed = record { ranges = ranges; formed = formed }; functions = fit; code = spells };
      feasible = feasible t r formed free;
    }

-- ---- the object of tables

pub schedulable_same : (t : Tables) → AreSchedulable t → AreSchedulable (coded t)
schedulable_same t free = λ path less.
    subst (λ (js : List Job). NoOverload (tightened js)) (path_jobs_same t (codes t) path)
    (free path (subst (λ (n : ℕ). path < n) (sym (paths_same t (codes t))) less))

pub built_accepted : BuiltIsAccepted
built_accepted platform t h =
    let s = h.can.tables in
    object_accepted platform (coded t) (coded_in_range t s.ranges s.small h.can.typed) (limits_same t (codes t) s.limits) (formed_same t t.functions (codes t) h.formed)
    (coded_fit t s.ranges s.small h.can.typed) (codes_are_code t s.ranges s.small h.can.typed) (schedulable_same t h.schedulable)
