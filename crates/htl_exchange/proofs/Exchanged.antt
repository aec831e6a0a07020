-- The laws of the exchange, from what the patched tables keep of the host.
use Rattle.std.proofs.Common.{◌≡◌, ℕ, List, sym, subst}
use Rattle.htl_exchange.proofs.{Words.Event, Cones.Cone, Unreached.unreached, Unreached.untouched, Matches.IsModeIn, Matches.Matches, PatchedMatches.patched_matches, RootPaths.path_same, SameRuns.is_same}
use Rattle.htl_model.proofs.{Words.AreInRange, Words.KeptApart, FrameRules.kept_apart}
use Rattle.htl_patch.proofs.Words.{slice_get_within, Formed, IsAccepted, IsInRange, Object, Tables, CanPatch, kept_12, new_numbers, order, patched, place_among, modes_of, root_modules, Replacement, Numbering}
use Rattle.htl_patch.proofs.{Accepting.IsReplacementOf, Accepting.can_replace, Accepting.replacement_is, Accepting.tables_in_range, Members.Has, Replacing.CanReplace, Replacing.host_root, Renumbering.mode_there, EmbeddedPaths.jobs_alike}
use Rattle.htl_load.specs.Alike.{AreAlike}
use Rattle.htl_walk.specs.PathJobs.{path_jobs}
use Rattle.htl_patch.proofs.Rooted.{embedded}
use Rattle.htl_refine.specs.FrameRuns.{frame_modes, path_of}
use Rattle.htl_exchange.specs.Exchange.{AreRootsUnreached, ShowsTheSame, TakesTheSamePath}
use Rattle.htl_exchange.proofs.SameLines.{are_in, mode_at, mode_text_same, value_text_same}

module _ (o d : Object) (unit mode : List ℕ) (g : Replacement) (accepted : IsAccepted o) (ranged : IsInRange d) (can : CanPatch o d unit mode g) where
  is : IsReplacementOf o.tables d.tables g
  is = replacement_is o.tables d.tables unit mode g can.modes

  abbrev n : Numbering
  n = new_numbers g

  abbrev s : Cone
  s = unreached g

  c : CanReplace g
  c = can_replace o d accepted ranged g is can.joins

  range : AreInRange (patched g)
  range = tables_in_range o d accepted ranged g is can.joins

  kept : KeptApart g.host 12
  kept = kept_apart g.host 12 (kept_12 g.host (subst Formed (sym is.host_is) accepted.spelled.formed.formed))

  also : KeptApart (patched g) 12
  also = kept_apart (patched g) 12 (kept_12 (patched g) can.formed)

  matches : Matches g.host (patched g) s (λ x. place_among x (order g)) (λ m. place_among m n.modes) (λ k. place_among k n.invs)
  matches = patched_matches g c can.joins range kept s (untouched g c.host kept)

  shows : (es : List Event) (now : ℕ) → ShowsTheSame g.host g es now
  shows es now =
      let both = is_same g.host (patched g) c.host range kept also s _ _ _ matches es now in
      record {
        values = both.values;
        stays = λ x less free. both.stays x (less, free);
        value_texts = value_text_same g.host (patched g) c.host range kept also s _ _ _ matches es now;
        mode_texts = λ x less free. mode_text_same g.host (patched g) c.host range kept also s _ _ _ matches es now x (less, free);
      }

  pub shows_same : (es : List Event) (now : ℕ) → ShowsTheSame o.tables g es now
  shows_same es now = subst (λ (t : Tables). ShowsTheSame t g es now) is.host_is (shows es now)

  -- a root module is in the cone, where no refinement reaches its mode
  root_in : AreRootsUnreached g.host g → (x : ℕ) → Has (root_modules g.host) x → s.modules x
  root_in free x h = let r = host_root g c x h in (slice_get_within g.host.modules x r.0 r.1, free h.0 x h.1)

  path : AreRootsUnreached g.host g → (es : List Event) (start : ℕ) → path_of (patched g) (frame_modes (patched g) es start) ≡ path_of g.host (frame_modes g.host es start)
  path free es start =
      path_same g.host (patched g) _ _ _ (embedded g c) es start
      (λ now x h. mode_at g.host (patched g) c.host range kept also s _ _ _ matches es now x (root_in free x h))
      (λ now x m k h at i. matches.tests k m (own x k h i) (are_in g.host (patched g) c.host range kept also s _ _ _ matches es now x (root_in free x h) m at))
    where
      own : (x k : ℕ) → Has (root_modules g.host) x → Has (modes_of g.host x) k → IsModeIn g.host s k
      own x k h i = let r = mode_there g.host x k i in record { mode = r.0; there = r.1; owner = subst s.modules (sym r.2) (root_in free x h) }

  takes : AreRootsUnreached g.host g → (es : List Event) (start : ℕ) → TakesTheSamePath g.host g es start
  takes free es start =
      let same = path free es start in
      let was = path_of g.host (frame_modes g.host es start) in
      record {
        path = same;
        jobs = subst (λ (p : ℕ). AreAlike (path_jobs g.host was) (path_jobs (patched g) p)) (sym same) (jobs_alike g.host (patched g) _ _ _ (embedded g c) was);
      }

  pub takes_same : AreRootsUnreached o.tables g → (es : List Event) (start : ℕ) → TakesTheSamePath o.tables g es start
  takes_same free es start =
      subst (λ (t : Tables). TakesTheSamePath t g es start) is.host_is (takes (subst (λ (t : Tables). AreRootsUnreached t g) (sym is.host_is) free) es start)
