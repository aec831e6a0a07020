-- The words that several proofs cite, of this crate and of those below it, passed on from one place. Declares nothing.
pub use Rattle.htl_base.specs.declared.Ty.{Ty}
pub use Rattle.htl_ecode.proofs.SpellingLaws.{spells_or_departs}
pub use Rattle.htl_ecode.specs.declared.fault.EFault.{EFault}
pub use Rattle.htl_espell.proofs.Words.{departure}
pub use Rattle.htl_form.proofs.{OneFault.one_law, SearchLaws.kept_12}
pub use Rattle.htl_load.specs.{Alike.AreAlike, Alike.AskTheSame, Alike.unnumbered, Faults.IsFormFault, Faults.IsRefused, Faults.IsScheduleFault, Faults.IsSpellingFault, Laws.AcceptedIsNotRefused, Laws.NoFrameFault, Laws.OneFault}
pub use Rattle.htl_load.specs.{Loading.HasBytes, Loading.RefusesBytes, Loading.RefusesObject, Unfit.FitBetween, Unfit.IsFirstUnfit, declared.fault.ObjectFault.ObjectFault}
pub use Rattle.htl_model.proofs.{FrameRules.frames_unbroken, PlaceLaws.count_function_types, Words.FrameLimits, Words.FunctionType}
pub use Rattle.htl_model.specs.{FunctionTypes.FitPlaces, FunctionTypes.IsFunctionOf, declared.form_fault.FormFault.FormFault, declared.function.Code.Code, declared.function.Function.Function, declared.parts.Task.Task}
pub use Rattle.htl_object.proofs.FunctionPlaces.{at_end, concrete_count, function_at, output_at, outputs_count, place_behind_task, switch_type_at, tasks_of}
pub use Rattle.htl_object.proofs.Words.{Compiled, Formula, Fun, IsDecoded, IsInRange, IsReadAs, Read, count_at, count_before, fault_of, first_bad, fun_of, function_count, function_types, object_in, object_or, output_type, slice_eq-Decides, slice_get_cases, whole_at}
pub use Rattle.htl_object.specs.{Accepted.IsAccepted, Accepted.IsFormed, Accepted.IsSpelled, declared.decoding.DecodeFault.DecodeFault, declared.lists.Lists.Lists, declared.malformed.Malformed.Malformed, declared.object.Object.Object}
pub use Rattle.htl_refine.proofs.OneFault.{formed, one_first_broken}
pub use Rattle.htl_refine.proofs.Words.{AreInRange, Broken, Decides, FormRule, Formed, IsFirstBroken, IsMet, IsPathAccepted, Left, Leg, Point, Tables, arith, cases_less_same, cases_lt, dispatch_begins, end_to_end, first_point, job_at, kept_apart, last_point, left_by, legs, list_point, list_to, lists_of, next_point, node, path_jobs, paths, site_of, slice_between, starts, time_after, walk_from, walks_from, work, work_after}
pub use Rattle.htl_walk.proofs.{OneMiss.one_path_miss, Words.AreDone, Words.AreFeasible, Words.AreInOrder, Words.InOrder, Words.IsFirstFailing, Words.IsPathMiss, Words.PathMeets, Words.instrs_of, Words.subst, Words.worst_cases}
pub use Rattle.htl_walk.specs.{Paths.walk_path, Walk.finished_by, declared.job.Job.Job, declared.miss.Miss.Miss, declared.schedule.SInstr.SInstr, declared.schedule.Schedule.Schedule}
pub use Rattle.htl_walk.specs.declared.schedule.SInstr.TheVariants.{Dispatch, End, Idle}
