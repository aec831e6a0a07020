-- A phase goes on by one instruction, and ends.
use Rattle.std.proofs.Common.{arith, ◌≡◌, ℕ, List, [], ◌∷◌, ◌++◌, slice_get, Option, Some, None, refl, sym, ap, ◌∙◌, subst}
use Rattle.htl_runs.proofs.Words.{append-nil, Event, Tables, ECode, EInstr, Done, EDone, Content, IsShaped, Standing, content_after, StandsSafely, Onward, phase_path, done_of, IsAllowed, switch_quiet, IsRunning, replay, effect_at}

replay_more : (t : Tables) (code : ECode) (ds : List Done) (d : Done) (w : Content) → replay t code (ds ++ d ∷ []) w ≡ effect_at t (slice_get code.instrs d.address) (replay t code ds w)
replay_more t code [] d w = refl
replay_more t code (x ∷ ds) d w = replay_more t code ds d (effect_at t (slice_get code.instrs x.address) w)

-- one instruction more
pub running_on : (t : Tables) (code : ECode) (es : List Event) (at phase : ℕ) (m next : Standing) (w after first : Content) (d : EDone) → (h : IsRunning t code es at phase m w first) → StandsSafely t code next → IsShaped t after →
    Onward t code es at phase next h.done h.rest (Some d) → after ≡ content_after t w (Some d) → IsRunning t code es at phase next after first
running_on t code es at phase m next w after first d h safe shaped on is = grind (arith, replay_more, switch_quiet)

pub running_done : (t : Tables) (code : ECode) (es : List Event) (at phase : ℕ) (m next : Standing) (w after first : Content) (d : EDone) → (h : IsRunning t code es at phase m w first) → (safe : StandsSafely t code next) → (shaped : IsShaped t after) →
    (on : Onward t code es at phase next h.done h.rest (Some d)) → (is : after ≡ content_after t w (Some d)) → (running_on t code es at phase m next w after first d h safe shaped on is).done ≡ h.done ++ done_of d ∷ []
unfolding running_on
running_done t code es at phase m next w after first d h safe shaped on is = refl

-- nothing is left
pub phase_replayed : (t : Tables) (code : ECode) (es : List Event) (at phase : ℕ) (m next : Standing) (w after first : Content) → (h : IsRunning t code es at phase m w first) → Onward t code es at phase next h.done h.rest None → after ≡ content_after t w None →
    after ≡ replay t code (phase_path t code es at phase) first
phase_replayed t code es at phase m next w after first h on is = grind (arith, append-nil)

pub phase_ends : (t : Tables) (code : ECode) (es : List Event) (at phase : ℕ) (m next : Standing) (w first : Content) → (h : IsRunning t code es at phase m w first) → Onward t code es at phase next h.done h.rest None →
    Onward t code es at phase next (phase_path t code es at phase) [] None
phase_ends t code es at phase m next w first h on = (refl, on.1, on.2)
