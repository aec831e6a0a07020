-- The lines of a phase's instructions: one by one, and all of them.
use Rattle.std.proofs.Common.{◌≡◌, ℕ, zero, suc, Bool, true, false, cond, eqb, List, [], ◌∷◌, ◌++◌, length, slice_get, Option, Some, None, Ok, Err, refl, sym, ap, ◌∙◌, subst, arith, append-nil, length-append}
use Rattle.htl_machine.proofs.Words.{append_known, Puts, append_known-start, append_known-more, Puts-failed, Event, joined, Tables, SInstr, Round, ECode, EInstr, Done, EDone, Content, IsShaped, Standing, content_after, StandsSafely, Midway, Onward, phase_path, done_of, IsRunning, Shown, instr_line, shows_code, Tally, one_instr, with_instrs, s_machine_does, s_machine_at, s_machine_replay, instr_lines, path_lines, told_in_phase, IsDoing, e_line}
use Rattle.htl_smach.specs.Rounds as rounds
use Rattle.htl_runs.proofs.{values.PhaseSteps.running_on, values.PhaseSteps.running_done, lines.Joined.joined-append}

-- ---- one address more

-- addresses, an address, and those that follow
lines_cut : (t : Tables) (code : ECode) (show : Shown) (at : ℕ) (ds more : List Done) (d : EDone) → slice_get code.instrs d.address ≡ Some d.instr
    → path_lines t code show at (ds ++ done_of d ∷ more) ≡ path_lines t code show at ds ++ (instr_lines t show at d.address d.instr ++ path_lines t code show at more)
lines_cut t code show at ds more d e = by_show (shows_code show)
  where
    by_show : (b : Bool) → cond b (joined (e_line t code at) (ds ++ done_of d ∷ more)) []
        ≡ cond b (joined (e_line t code at) ds) [] ++ (cond b (instr_line t at d.address d.instr) [] ++ cond b (joined (e_line t code at) more) [])
    by_show false = refl
    by_show true =
        joined-append (e_line t code at) ds (done_of d ∷ more)
        ∙ ap (λ (o : Option EInstr). joined (e_line t code at) ds ++ (elim o [ Some i ↦ instr_line t at d.address i | None ↦ [] ] ++ joined (e_line t code at) more)) e

no_lines : (t : Tables) (code : ECode) (show : Shown) (at : ℕ) → path_lines t code show at [] ≡ []
no_lines t code show at = by_show (shows_code show)
  where
    by_show : (b : Bool) → cond {A = List ℕ} b [] [] ≡ []
    by_show true = refl
    by_show false = refl

lines_more : (t : Tables) (code : ECode) (show : Shown) (at : ℕ) (ds : List Done) (d : EDone) → slice_get code.instrs d.address ≡ Some d.instr
    → path_lines t code show at (ds ++ done_of d ∷ []) ≡ path_lines t code show at ds ++ instr_lines t show at d.address d.instr
lines_more t code show at ds d e =
    lines_cut t code show at ds [] d e
    ∙ ap (λ z. path_lines t code show at ds ++ (instr_lines t show at d.address d.instr ++ z)) (no_lines t code show at)
    ∙ ap (λ z. path_lines t code show at ds ++ z) (append-nil (instr_lines t show at d.address d.instr))

count_more : (k : ℕ) (n : Tally) → with_instrs (suc k) n ≡ one_instr (with_instrs k n)
count_more zero n = refl
count_more (suc k) n = count_more k (one_instr n)

release_more : (code : ECode) (ds : List Done) (d : Done) (r : Round) → s_machine_replay code (ds ++ d ∷ []) r ≡ s_machine_at (slice_get code.instrs d.address) (s_machine_replay code ds r)
release_more code [] d r = refl
release_more code (x ∷ ds) d r = release_more code ds d (s_machine_at (slice_get code.instrs x.address) r)

told_more : (phase : ℕ) (code : ECode) (ds : List Done) (d : EDone) (r : Round) → slice_get code.instrs d.address ≡ Some d.instr
    → told_in_phase phase code (ds ++ done_of d ∷ []) r ≡ cond (eqb phase 3) (s_machine_does d.instr (told_in_phase phase code ds r)) (told_in_phase phase code ds r)
told_more phase code ds d r e = by_phase (eqb phase 3)
  where
    by_phase : (b : Bool) → cond b (s_machine_replay code (ds ++ done_of d ∷ []) r) r ≡ cond b (s_machine_does d.instr (cond b (s_machine_replay code ds r) r)) (cond b (s_machine_replay code ds r) r)
    by_phase false = refl
    by_phase true = release_more code ds (done_of d) r ∙ ap (λ o. s_machine_at o (s_machine_replay code ds r)) e

-- ---- the loop

told_none : (phase : ℕ) (code : ECode) (r : Round) → r ≡ told_in_phase phase code [] r
told_none phase code r = by_phase (eqb phase 3)
  where
    by_phase : (b : Bool) → r ≡ cond b r r
    by_phase true = refl
    by_phase false = refl

pub doing_start : (t : Tables) (code : ECode) (es : List Event) (at phase : ℕ) (show : Shown) (m : Standing) (w : Content) (r : Round) (w0 : Option (List ℕ)) (f0 : ℕ) (n : Tally)
    → Midway t code es at phase m [] (phase_path t code es at phase) → StandsSafely t code m → IsShaped t w → IsDoing t code es at phase show m w w r r w0 w0 f0 f0 n n
doing_start t code es at phase show m w r w0 f0 n midway safe shaped =
    record {
      running = record { done = []; rest = phase_path t code es at phase; midway = midway; safe = safe; shaped = shaped; content = refl; values = λ two. refl };
      kept = refl;
      text = append_known-start w0 ∙ ap (append_known w0) (sym (no_lines t code show at));
      count = refl;
      s_machine = told_none phase code r;
      stands = λ s st. st;
    }

-- one instruction more
pub doing_on : {T E : Type 0} (t : Tables) (code : ECode) (es : List Event) (at phase : ℕ) (show : Shown) (m next : Standing) (w after first : Content) (r0 r r1 : Round) (w0 w1 w2 : Option (List ℕ)) (f0 f g : ℕ) (n0 n n1 : Tally) (d : EDone) (x : T)
    → (h : IsDoing t code es at phase show m w first r0 r w0 w1 f0 f n0 n) → StandsSafely t code next → IsShaped t after → Onward t code es at phase next h.running.done h.running.rest (Some d) → after ≡ content_after t w (Some d)
    → n1 ≡ one_instr n → r1 ≡ cond (eqb phase 3) (s_machine_does d.instr r) r → ((s : List SInstr) → rounds.Stands r s → rounds.Stands r1 s)
    → Puts {T = T} {E = E} w1 w2 f g (instr_lines t show at d.address d.instr) (Ok x) → IsDoing t code es at phase show next after first r0 r1 w0 w2 f0 g n0 n1
doing_on t code es at phase show m next w after first r0 r r1 w0 w1 w2 f0 f g n0 n n1 d x h safe shaped on is count s_machine stands puts =
    let done = h.running.done in
    let now : List Done = done ++ done_of d ∷ [] in
    let same = sym (running_done t code es at phase m next w after first d h.running safe shaped on is) in
    record {
      running = running_on t code es at phase m next w after first d h.running safe shaped on is;
      kept = puts.cause.kept ∙ h.kept;
      text =
          append_known-more w0 w1 w2 (path_lines t code show at done) (instr_lines t show at d.address d.instr) h.text puts.whole
          ∙ ap (append_known w0) (sym (lines_more t code show at done d on.2))
          ∙ ap (λ (ds : List Done). append_known w0 (path_lines t code show at ds)) same;
      count =
          count ∙ ap one_instr h.count ∙ sym (count_more (length done) n0)
          ∙ ap (λ k. with_instrs k n0) (let z : suc (length done) ≡ length now = omega (arith, length-append done (done_of d ∷ [])) in z)
          ∙ ap (λ (ds : List Done). with_instrs (length ds) n0) same;
      s_machine =
          s_machine ∙ ap (λ z. cond (eqb phase 3) (s_machine_does d.instr z) z) h.s_machine ∙ sym (told_more phase code done d r0 on.2)
          ∙ ap (λ (ds : List Done). told_in_phase phase code ds r0) same;
      stands = λ s st. stands s (h.stands s st);
    }

-- a line fails
pub doing_cut : {T S E F : Type 0} (t : Tables) (code : ECode) (es : List Event) (at phase : ℕ) (show : Shown) (m next : Standing) (w first : Content) (r0 r : Round) (w0 w1 w2 : Option (List ℕ)) (f0 f g : ℕ) (n0 n : Tally) (d : EDone) (x : E) (y : F)
    → (h : IsDoing t code es at phase show m w first r0 r w0 w1 f0 f n0 n) → Onward t code es at phase next h.running.done h.running.rest (Some d)
    → Puts {T = T} {E = E} w1 w2 f g (instr_lines t show at d.address d.instr) (Err x) → Puts {T = S} {E = F} w0 w2 f0 g (path_lines t code show at (phase_path t code es at phase)) (Err y)
doing_cut {S = S} {F = F} t code es at phase show m next w first r0 r w0 w1 w2 f0 f g n0 n d x y h on puts =
    let done = h.running.done in
    let whole : phase_path t code es at phase ≡ done ++ done_of d ∷ on.0 = h.running.midway.path ∙ ap (λ zs. done ++ zs) on.1 in
    subst (λ z. Puts {T = S} {E = F} w0 w2 f0 g z (Err y)) (sym (lines_cut t code show at done on.0 d on.2) ∙ ap (path_lines t code show at) (sym whole))
    (Puts-failed w0 w1 w2 f0 f g (path_lines t code show at done) (instr_lines t show at d.address d.instr) (path_lines t code show at on.0) x y h.text h.kept puts)

-- all are done
all_done : (t : Tables) (code : ECode) (es : List Event) (at phase : ℕ) (m next : Standing) (w first : Content) → (h : IsRunning t code es at phase m w first) → Onward t code es at phase next h.done h.rest None
    → h.done ≡ phase_path t code es at phase
all_done t code es at phase m next w first h on = sym (h.midway.path ∙ ap (λ zs. h.done ++ zs) on.0 ∙ append-nil h.done)

pub doing_end : {T E : Type 0} (t : Tables) (code : ECode) (es : List Event) (at phase : ℕ) (show : Shown) (m next : Standing) (w first : Content) (r0 r : Round) (w0 w1 : Option (List ℕ)) (f0 f : ℕ) (n0 n : Tally) (x : T)
    → (h : IsDoing t code es at phase show m w first r0 r w0 w1 f0 f n0 n) → Onward t code es at phase next h.running.done h.running.rest None
    → Puts {T = T} {E = E} w0 w1 f0 f (path_lines t code show at (phase_path t code es at phase)) (Ok x)
doing_end t code es at phase show m next w first r0 r w0 w1 f0 f n0 n x h on =
    record {
      whole = h.text ∙ ap (λ z. append_known w0 (path_lines t code show at z)) (all_done t code es at phase m next w first h.running on);
      part = tt;
      cause = record { later = omega (arith, h.kept); kept = h.kept; refused = tt };
    }

pub doing_counted : (t : Tables) (code : ECode) (es : List Event) (at phase : ℕ) (show : Shown) (m next : Standing) (w first : Content) (r0 r : Round) (w0 w1 : Option (List ℕ)) (f0 f : ℕ) (n0 n : Tally)
    → (h : IsDoing t code es at phase show m w first r0 r w0 w1 f0 f n0 n) → Onward t code es at phase next h.running.done h.running.rest None → n ≡ with_instrs (length (phase_path t code es at phase)) n0
doing_counted t code es at phase show m next w first r0 r w0 w1 f0 f n0 n h on =
    h.count ∙ ap (λ (z : List Done). with_instrs (length z) n0) (all_done t code es at phase m next w first h.running on)

pub doing_told : (t : Tables) (code : ECode) (es : List Event) (at phase : ℕ) (show : Shown) (m next : Standing) (w first : Content) (r0 r : Round) (w0 w1 : Option (List ℕ)) (f0 f : ℕ) (n0 n : Tally)
    → (h : IsDoing t code es at phase show m w first r0 r w0 w1 f0 f n0 n) → Onward t code es at phase next h.running.done h.running.rest None → r ≡ told_in_phase phase code (phase_path t code es at phase) r0
doing_told t code es at phase show m next w first r0 r w0 w1 f0 f n0 n h on =
    h.s_machine ∙ ap (λ z. told_in_phase phase code z r0) (all_done t code es at phase m next w first h.running on)
