-- The worst case of a task reaches nothing of the frame.
use Rattle.std.proofs.Common.{◌≡◌, ◌≤◌, ℕ, sym, ap, ◌∙◌, subst, List, length}
use Rattle.htl_edf.proofs.Words.{Task, Frame, Place, Tables, rounds, choices, radices, nodes_of, most_positions, frame_limit, KeepsFrames, IsFrame, all_choices_framed, radices_framed, all_most_framed, limit_framed, worst_in, LimitsWithWorst, FrameWithWorst}
use Rattle.htl_edf.proofs.Greatest.{with_tasks, rounds_same, paths_same, path_places_same}

module _ (t : Tables) (xs ys : List Task) where
  all_choices : choices (with_tasks t xs) (rounds (with_tasks t xs)) ≡ choices (with_tasks t ys) (rounds (with_tasks t ys))
  all_choices = all_choices_framed (with_tasks t xs) ∙ sym (all_choices_framed (with_tasks t ys))

  all_most : most_positions (with_tasks t xs) (rounds (with_tasks t xs)) ≡ most_positions (with_tasks t ys) (rounds (with_tasks t ys))
  all_most = all_most_framed (with_tasks t xs) ∙ sym (all_most_framed (with_tasks t ys))

  pub limit_same : frame_limit (with_tasks t xs) ≡ frame_limit (with_tasks t ys)
  limit_same = limit_framed (with_tasks t xs) ∙ sym (limit_framed (with_tasks t ys))

  radices_same : radices (with_tasks t xs) ≡ radices (with_tasks t ys)
  radices_same = radices_framed (with_tasks t xs) ∙ sym (radices_framed (with_tasks t ys))

  keeps_same : KeepsFrames (with_tasks t xs) → KeepsFrames (with_tasks t ys)
  keeps_same h =
      record {
        frame = h.frame;
        starts = h.starts;
        paths = subst (λ (n : ℕ). n ≤ 1024) (paths_same t xs ys) h.paths;
        choices = subst (λ (n : ℕ). n ≤ 1024) all_choices h.choices;
        most = subst (λ (n : ℕ). n ≤ 128) all_most h.most;
        positions = λ path. subst (λ (ps : List Place). length ps ≤ 128) (path_places_same t xs ys path) (h.positions path);
      }

  pub frame_same : (f : Frame) → IsFrame (with_tasks t xs) f → IsFrame (with_tasks t ys) f
  frame_same f h =
      record {
        limits = keeps_same h.limits;
        count = h.count;
        starts = h.starts;
        room = h.room;
        round_count = h.round_count;
        rounds = h.rounds ∙ rounds_same t xs ys;
        radices = h.radices ∙ radices_same;
        radix_room = h.radix_room;
        paths = h.paths ∙ paths_same t xs ys;
        nodes = h.nodes ∙ ap nodes_of radices_same;
      }

pub limits_with_worst : LimitsWithWorst
limits_with_worst t task w = limit_same t (worst_in w task t.tasks) t.tasks

pub frame_with_worst : FrameWithWorst
frame_with_worst t f task w h = frame_same t t.tasks (worst_in w task t.tasks) f h
