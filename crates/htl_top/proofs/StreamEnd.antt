-- The end of a script that is read as the run goes: what was told, and what the totals write.
use Rattle.std.proofs.Common.{arith, ◌≡◌, true, false, ℕ, List, [], ◌∷◌, ◌++◌, Option, Some, None, Result, Ok, Err, is_some, refl, sym, ap, ◌∙◌, subst}
use Rattle.htl_top.proofs.Vocabulary.{append_known, append-nil, Puts, none_left, Seen, IsFinished, IsSameRun, totals_line, Tables, Event, past_of, OfScript, behind, Whole, script_of, Ahead, Gives, still, IsAnswer, Goes, Past, whole-script, gives_more, given_script, given_all, told_of, IsPlaying, IsTold, IsCutRun, IsWholeRun, EndsAt, text_before_fault, text_of_script}
use Rattle.htl_edge.specs.declared.Failed.{Failed}
use Rattle.htl_model.specs.declared.event.Event.TheVariants as event
use Rattle.htl_top.proofs.{Executing.run_put, Playing.end_after, Playing.last_same}

-- the input has ended: the machine is finished
pub record IsOver (m0 m : Seen) (known left w0 w : Option (List ℕ)) : Type 0 where
  pub told : List Event
  pub end : ℕ
  pub last : EndsAt told end
  pub done : (front : List Event) (to : ℕ) → told ≡ front ++ event.End to ∷ [] → IsFinished m front to
  pub same : IsSameRun m0 m
  pub text : w ≡ append_known w0 (text_before_fault m0.object m0.show told)
  pub script : OfScript known (λ script. script_of m0.object.tables script ≡ Whole told end)
  pub read : left ≡ none_left known

-- lists that end in the end of a run end it at once
pub one_end : (es fs gs : List Event) (from to : ℕ) → gs ≡ es ++ event.End from ∷ [] → gs ≡ fs ++ event.End to ∷ [] → (es ≡ fs) × (from ≡ to)
one_end es fs gs from to p q =
    let same = last_same es fs (event.End from) (event.End to) (sym p ∙ q) in
    (same.0, (let ends = same.1 in cc))

module _ (t : Tables) (m0 m : Seen) (tables : t ≡ m0.object.tables) (a b : Ahead) (known rest left w0 w : Option (List ℕ)) (p : IsPlaying t m0 m a known rest w0 w)
    (answer : Gives a.ahead.over b.ahead.over rest left (IsAnswer t a b (Ok None))) where
  abbrev Ended : List ℕ → List ℕ → Type 0
  Ended bytes later = (b.ahead.over ≡ true) × ((to : ℕ) × (script_of t bytes ≡ Whole p.told to))

  all : Gives false b.ahead.over known left Ended
  all =
      gives_more false a.ahead.over b.ahead.over known rest left (λ bytes later. script_of t bytes ≡ behind p.told (still t a later)) (IsAnswer t a b (Ok None)) Ended
      (λ bytes middle later was now. (now.0, (now.1.0, was ∙ ap (behind p.told) now.1.1 ∙ ap (λ (es : List Event). Whole es now.1.0) (append-nil p.told)))) p.script answer

  given : OfScript known (λ bytes. Ended bytes (told_of left))
  given = given_script b.ahead.over known left Ended all

  -- the last of the events told is the end
  end_told : (o : Option ℕ) → is_some o ≡ true → IsTold m p.told o → (end : ℕ) × (front : List Event) × (p.told ≡ front ++ event.End end ∷ []) × IsFinished m front end
  end_told None some h = absurd (let z : ⊥ = cc in z)
  end_told (Some end) some h = (end, h.0, h.1, h.2)

  pub over : Goes t a.here.past b.here.past (Ok None) → IsOver m0 m known left w0 w
  over goes =
      let e = end_told (past_of p.told).end (subst (λ (z : Past). is_some z.end ≡ true) (goes.0 ∙ p.past) goes.1) p.machine in
      let end = e.0 in
      let is = end_after t p.told e.1 end p.are e.2 in
      let last = (whole-script t given.0 p.told given.2.1.0 given.2.1.1).1 in
      let same : given.2.1.0 ≡ end = (one_end last.0 e.1 p.told given.2.1.0 end last.1 e.2).1 in
      record {
        told = p.told;
        end = end;
        last = record { last = (e.1, e.2); in_time = is.1 };
        done = λ front to cut.
            let one = one_end e.1 front p.told end to e.2 cut in
            subst (λ (fs : List Event). IsFinished m fs to) one.0 (subst (IsFinished m e.1) one.1 e.3);
        same = p.same;
        text = p.text;
        script = (given.0, given.1, subst (λ (z : Tables). script_of z given.0 ≡ Whole p.told end) tables (given.2.1.1 ∙ ap (Whole p.told) same));
        read = given_all b.ahead.over known left Ended all given.2.0;
      }

  -- what was told stays
  pub over-told : (goes : Goes t a.here.past b.here.past (Ok None)) → (over goes).told ≡ p.told
  unfolding over
  over-told goes = refl

-- the totals were written, or a part of them
module _ (m0 m : Seen) (known left w0 w w1 : Option (List ℕ)) (f f1 : ℕ) (h : IsOver m0 m known left w0 w) where
  text_put : {T : Type 0} (r : Result T Failed) → Puts w w1 f f1 (totals_line m.run_state.reading m.jobs m.e m.s) r → Puts w0 w1 f f1 (text_of_script m0.object m0.show (Whole h.told h.end)) r
  text_put r puts =
      let first : Puts {T = Unit {0}} {E = Failed} w0 w f f (text_before_fault m0.object m0.show h.told) (Ok tt) = record { whole = h.text; part = tt; cause = record { later = omega arith; kept = refl; refused = tt } } in
      run_put m0.object m0.show h.told {S = Unit {0}} m w0 w w1 f f f1 tt r h.same.object first h.done puts h.end h.last

  pub over_done : {T : Type 0} (x : T) → Puts {T = T} {E = Failed} w w1 f f1 (totals_line m.run_state.reading m.jobs m.e m.s) (Ok x)
      → IsWholeRun m0.show m0.object.tables m0.object known left w0 w1
  over_done x puts = record { events = h.told; end = h.end; script = h.script; read = h.read; written = (text_put (Ok x) puts).whole }

  pub over_cut : {T : Type 0} (x : Failed) → Puts {T = T} {E = Failed} w w1 f f1 (totals_line m.run_state.reading m.jobs m.e m.s) (Err x)
      → IsCutRun m0.show m0.object.tables m0.object known w0 w1
  over_cut {T = T} x puts = record { given = Whole h.told h.end; script = h.script; written = (text_put {T = T} (Err x) puts).part }
