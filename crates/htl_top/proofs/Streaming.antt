-- From event to event of a script that is read as the run goes: what the machine follows, what is written, and what is still to come.
use Rattle.std.proofs.Common.{◌≡◌, Bool, false, ℕ, suc, List, [], ◌∷◌, ◌++◌, Option, Some, None, Result, Ok, Err, refl, sym, ap, ◌∙◌, subst}
use Rattle.htl_top.proofs.Vocabulary.{StopsAtLine, append_known, Shown, Rose, AppendsPrefix, Puts, append_known-start, append_known-more, AppendsPrefix-more, Seen, Follows, IsSameRun, text_between, reading_of, before_of, Tables, Event, IsAccepted, Object, AreEvents, EndWith, at_first, past_after, past_after_all, past_of, OfScript, behind, Ahead, Gives, still, at_start, IsAnswer, Goes, ScriptFault, Past, behind-nil, behind-append, events_of-behind, script_of-rest, script-events, whole-script, AreEvents-front, gives_more, given_script, told_of, totals_text, HaveNoEnd, IsBehind, IsNext, IsPlaying, IsTold, text_more, IsCutRun, IsFaultyRun, text_before_fault, text_of_script, prepend_known-nil, append_assoc, append-nil}
use Rattle.htl_model.specs.declared.event.Event.TheVariants as event
use Rattle.htl_script.specs.Script.{Script, Whole, Bad, events_of, script_of}
use Rattle.htl_script.specs.declared.fault.ScriptStop.TheVariants as stop
use Rattle.htl_top.proofs.Playing.{end_after, next, past_more, text_end, text_ended, text_next, text_open, took_within}

-- ---- events behind others

no_items : (es : List Event) (e : Event) (later : List Event) → es ++ e ∷ later ≡ [] → ⊥
no_items [] e later h = cc
no_items (x ∷ es) e later h = cc

-- no end stands before another event
no_end_before : (t : Tables) (last : Option ℕ) (es : List Event) (e : Event) (later : List Event) → AreEvents t last (es ++ e ∷ later) → HaveNoEnd es
no_end_before t last [] e later are = tt
no_end_before t last (event.At to ∷ es) e later are = no_end_before t (Some to) es e later are.2
no_end_before t last (event.Sense c x ∷ es) e later are = no_end_before t last es e later are.2
no_end_before t last (event.Took i n ∷ es) e later are = no_end_before t last es e later are.2
no_end_before t last (event.End to ∷ es) e later are = absurd (no_items es e later are.2)

no_end_more : (es : List Event) (e : Event) → HaveNoEnd es → HaveNoEnd (e ∷ []) → HaveNoEnd (es ++ e ∷ [])
no_end_more [] e a b = b
no_end_more (event.At to ∷ es) e a b = no_end_more es e a b
no_end_more (event.Sense c x ∷ es) e a b = no_end_more es e a b
no_end_more (event.Took i n ∷ es) e a b = no_end_more es e a b
no_end_more (event.End to ∷ es) e a b = absurd a

-- none of them leaves an end
pub none_ended : (p : Past) (es : List Event) → HaveNoEnd es → (past_after_all p es).end ≡ p.end
none_ended p [] none = refl
none_ended p (event.At to ∷ es) none = none_ended (past_after p (event.At to)) es none
none_ended p (event.Sense c x ∷ es) none = none_ended p es none
none_ended p (event.Took i n ∷ es) none = none_ended p es none
none_ended p (event.End to ∷ es) none = absurd none

-- one event more
are_more : (t : Tables) (p : Past) (es : List Event) (e : Event) → AreEvents t p.reading es → HaveNoEnd es → AreEvents t (past_after_all p es).reading (e ∷ []) → AreEvents t p.reading (es ++ e ∷ [])
are_more t p [] e are none one = one
are_more t p (event.At to ∷ es) e are none one = (are.0, are.1, are_more t (past_after p (event.At to)) es e are.2 none one)
are_more t p (event.Sense c x ∷ es) e are none one = (are.0, are.1, are_more t p es e are.2 none one)
are_more t p (event.Took i n ∷ es) e are none one = (are.0, are.1, are_more t p es e are.2 none one)
are_more t p (event.End to ∷ es) e are none one = absurd none

-- it may be told
may_come : (t : Tables) (told : List Event) (e : Event) → AreEvents t None (told ++ e ∷ []) → HaveNoEnd told → IsNext t (reading_of 0 told) e
may_come t told (event.At to) are none = next t told (event.At to) [] are (no_end_more told (event.At to) none tt)
may_come t told (event.Sense c x) are none = next t told (event.Sense c x) [] are (no_end_more told (event.Sense c x) none tt)
may_come t told (event.Took i n) are none = next t told (event.Took i n) [] are (no_end_more told (event.Took i n) none tt)
may_come t told (event.End to) are none = end_after t (told ++ event.End to ∷ []) told to are refl

-- ---- what is written

-- a prefix of the text that a script stands for
pub record IsCutText (text : Script → List ℕ) (t : Tables) (known old new : Option (List ℕ)) : Type 0 where
  pub given : Script
  pub script : OfScript known (λ script. script_of t script ≡ given)
  pub written : AppendsPrefix old new (text given)

module _ (o : Object) (show : Shown) (accepted : IsAccepted o) where
  -- one event more, of events that go on
  goes : (es : List Event) (e : Event) → AreEvents o.tables None (es ++ e ∷ []) → HaveNoEnd es → HaveNoEnd (e ∷ []) → text_before_fault o show (es ++ e ∷ []) ≡ text_before_fault o show es ++ text_more o show es e
  goes es e are none one =
      let more = no_end_more es e none one in
      sym (text_open o show (es ++ e ∷ []) more) ∙ text_next o show accepted es e (took_within o.tables (es ++ e ∷ []) are) one (next o.tables es e [] are more)
      ∙ ap (λ (bs : List ℕ). bs ++ text_more o show es e) (text_open o show es none)

  ends : (es : List Event) (end : ℕ) → AreEvents o.tables None (es ++ event.End end ∷ []) → HaveNoEnd es
      → text_before_fault o show (es ++ event.End end ∷ []) ≡ text_before_fault o show es ++ text_between o es show (reading_of 0 es) (suc end)
  ends es end are none =
      sym (text_ended o show es end)
      ∙ text_end o show accepted es end (took_within o.tables (es ++ event.End end ∷ []) are) (end_after o.tables (es ++ event.End end ∷ []) es end are refl).0
      ∙ ap (λ (bs : List ℕ). bs ++ text_between o es show (reading_of 0 es) (suc end)) (text_open o show es none)

  text_on : (es : List Event) (e : Event) → AreEvents o.tables None (es ++ e ∷ []) → HaveNoEnd es → text_before_fault o show (es ++ e ∷ []) ≡ text_before_fault o show es ++ text_more o show es e
  text_on es (event.At to) are none = goes es (event.At to) are none tt
  text_on es (event.Sense c x) are none = goes es (event.Sense c x) are none tt
  text_on es (event.Took i n) are none = goes es (event.Took i n) are none tt
  text_on es (event.End to) are none = ends es to are none

  -- more events write on
  grows : (told more : List Event) → AreEvents o.tables None (told ++ more) → (back : List ℕ) × (text_before_fault o show (told ++ more) ≡ text_before_fault o show told ++ back)
  grows told [] are = ([], ap (text_before_fault o show) (append-nil told) ∙ sym (append-nil (text_before_fault o show told)))
  grows told (e ∷ more) are =
      let same : (told ++ e ∷ []) ++ more ≡ told ++ e ∷ more = append_assoc told (e ∷ []) more in
      let all = subst (AreEvents o.tables None) (sym same) are in
      let rest = grows (told ++ e ∷ []) more all in (
        text_more o show told e ++ rest.0,
        ap (text_before_fault o show) (sym same) ∙ rest.1
            ∙ ap (λ (bs : List ℕ). bs ++ rest.0) (text_on told e (AreEvents-front o.tables None (told ++ e ∷ []) more all) (no_end_before o.tables None told e more are))
            ∙ append_assoc (text_before_fault o show told) (text_more o show told e) rest.0,
      )

  -- the lines of a whole script are those before a fault behind its events
  pub whole_text : (events : List Event) (end : ℕ) → EndWith events end → before_of o events show (suc end) ≡ text_before_fault o show events
  whole_text events end w =
      ap (λ (es : List Event). before_of o es show (suc end)) w.1 ∙ text_ended o show w.0 end ∙ sym (ap (text_before_fault o show) w.1)

  -- what a script makes a run write begins with what is written before a fault behind its events
  begins : (given : Script) → ((events : List Event) (end : ℕ) → given ≡ Whole events end → EndWith events end) → (back : List ℕ) × (text_of_script o show given ≡ text_before_fault o show (events_of given) ++ back)
  begins (Bad line kind events) last = ([], sym (append-nil (text_before_fault o show events)))
  begins (Whole events end) last =
      (totals_text o events end, ap (λ (bs : List ℕ). bs ++ totals_text o events end) (whole_text events end (last events end refl)))

  -- a prefix of what the events told make a run write is one of what the script does, where that begins so
  pub cut_text : (text : Script → List ℕ)
      → ((given : Script) → ((events : List Event) (end : ℕ) → given ≡ Whole events end → EndWith events end) → (back : List ℕ) × (text given ≡ text_before_fault o show (events_of given) ++ back))
      → (told : List Event) (n : Bool) (a : Ahead) (known rest old new : Option (List ℕ)) → Gives false n known rest (λ bytes later. script_of o.tables bytes ≡ behind told (still o.tables a later))
      → AppendsPrefix old new (text_before_fault o show told) → IsCutText text o.tables known old new
  cut_text text first told n a known rest old new given part =
      let t = o.tables in
      let script = given_script n known rest (λ bytes later. script_of t bytes ≡ behind told (still t a later)) given in
      let later = still t a (told_of rest) in
      let events : events_of (script_of t script.0) ≡ told ++ events_of later = ap events_of script.2 ∙ events_of-behind told later in
      let grown = grows told (events_of later) (subst (AreEvents t None) events (script-events t script.0)) in
      let whole = first (script_of t script.0) (λ es end e. (whole-script t script.0 es end e).1) in
      let same : text (script_of t script.0) ≡ text_before_fault o show told ++ (grown.0 ++ whole.0) =
      whole.1 ∙ ap (λ (es : List Event). text_before_fault o show es ++ whole.0) events ∙ ap (λ (bs : List ℕ). bs ++ whole.0) grown.1
      ∙ append_assoc (text_before_fault o show told) grown.0 whole.0 in
      record {
        given = script_of t script.0;
        script = (script.0, script.1, refl);
        written = (
          part.0,
          (
            part.1.0 ++ (grown.0 ++ whole.0),
            same ∙ ap (λ (bs : List ℕ). bs ++ (grown.0 ++ whole.0)) part.1.1 ∙ append_assoc part.0 part.1.0 (grown.0 ++ whole.0),
          ),
          part.2,
        );
      }

  cut_run : (told : List Event) (n : Bool) (a : Ahead) (known rest old new : Option (List ℕ)) → Gives false n known rest (λ bytes later. script_of o.tables bytes ≡ behind told (still o.tables a later))
      → AppendsPrefix old new (text_before_fault o show told) → IsCutRun show o.tables o known old new
  cut_run told n a known rest old new given part =
      let cut = cut_text (text_of_script o show) begins told n a known rest old new given part in
      record { given = cut.given; script = cut.script; written = cut.written }

-- ---- what one call writes

pub text_at : {T E : Type 0} (m : Seen) (es : List Event) (e : Event) (to : ℕ) (w w1 : Option (List ℕ)) (f f1 : ℕ) (r : Result T E) → Follows m es → e ≡ event.At to
    → Puts w w1 f f1 (text_between m.object es m.show m.run_state.reading to) r → Puts w w1 f f1 (text_more m.object m.show es e) r
text_at m es e to w w1 f f1 r follows is puts =
    subst (λ (x : Event). Puts w w1 f f1 (text_more m.object m.show es x) r) (sym is)
    (subst (λ (from : ℕ). Puts w w1 f f1 (text_between m.object es m.show from to) r) follows.kept.reading puts)

pub text_last : {T E : Type 0} (m : Seen) (es : List Event) (e : Event) (to : ℕ) (w w1 : Option (List ℕ)) (f f1 : ℕ) (r : Result T E) → Follows m es → e ≡ event.End to
    → Puts w w1 f f1 (text_between m.object es m.show m.run_state.reading (suc to)) r → Puts w w1 f f1 (text_more m.object m.show es e) r
text_last m es e to w w1 f f1 r follows is puts =
    subst (λ (x : Event). Puts w w1 f f1 (text_more m.object m.show es x) r) (sym is)
    (subst (λ (from : ℕ). Puts w w1 f f1 (text_between m.object es m.show from (suc to)) r) follows.kept.reading puts)

-- ---- the loop

pub playing_start : (t : Tables) (m : Seen) (a : Ahead) (known w : Option (List ℕ)) → Follows m [] → a ≡ at_start → IsPlaying t m m a known known w w
playing_start t m a known w follows at = record {
  told = [];
  are = tt;
  past = ap (λ (z : Ahead). z.here.past) at;
  machine = (tt, follows);
  same = record { object = refl; show = refl };
  text = append_known-start w;
  script = subst (λ (z : Ahead). Gives false z.ahead.over known known (λ bytes later. script_of t bytes ≡ behind [] (still t z later))) (sym at) (record {
    front = [];
    lost = prepend_known-nil known;
    ends = λ was now. was now;
    kept = λ over. (refl, over);
    fact = λ later ok. script_of-rest t later ∙ sym (behind-nil (still t at_start later));
  });
}

pub playing_start-told : (t : Tables) (m : Seen) (a : Ahead) (known w : Option (List ℕ)) (follows : Follows m []) (at : a ≡ at_start) → (playing_start t m a known w follows at).told ≡ []
unfolding playing_start
playing_start-told t m a known w follows at = refl

-- an event was read
pub record IsHeard (t : Tables) (m0 m : Seen) (b : Ahead) (known rest w0 w : Option (List ℕ)) (e : Event) : Type 0 where
  pub told : List Event
  pub none : HaveNoEnd told
  pub follows : Follows m told
  pub may : IsNext m.object.tables (reading_of 0 told) e
  pub are : AreEvents t None (told ++ e ∷ [])
  pub past : b.here.past ≡ past_of (told ++ e ∷ [])
  pub same : IsSameRun m0 m
  pub text : w ≡ append_known w0 (text_before_fault m0.object m0.show told)
  pub script : Gives false b.ahead.over known rest (λ bytes later. script_of t bytes ≡ behind (told ++ e ∷ []) (still t b later))

module _ (t : Tables) (m0 m : Seen) (accepted : IsAccepted m0.object) (tables : t ≡ m0.object.tables) (a b : Ahead) (known rest left w0 w : Option (List ℕ)) where
  pub heard : (e : Event) → IsPlaying t m0 m a known rest w0 w → Gives a.ahead.over b.ahead.over rest left (IsAnswer t a b (Ok (Some e))) → Goes t a.here.past b.here.past (Ok (Some e))
      → IsHeard t m0 m b known left w0 w e
  heard e p answer goes =
      let running : (past_of p.told).end ≡ None = sym (ap (λ (z : Past). z.end) p.past) ∙ goes.0.running in
      let open_told : HaveNoEnd p.told × Follows m p.told = by (past_of p.told).end p.told running p.machine in
      let are : AreEvents t None (p.told ++ e ∷ []) =
      are_more t at_first p.told e p.are open_told.0 (subst (λ (z : Past). AreEvents t z.reading (e ∷ [])) p.past goes.0.are) in
      record {
        told = p.told;
        none = open_told.0;
        follows = open_told.1;
        may = subst (λ (z : Tables). IsNext z (reading_of 0 p.told) e) (tables ∙ ap (λ (o : Object). o.tables) (sym p.same.object)) (may_come t p.told e are open_told.0);
        are = are;
        past = goes.1 ∙ ap (λ (z : Past). past_after z e) p.past ∙ sym (past_more at_first p.told e);
        same = p.same;
        text = p.text;
        script =
            gives_more false a.ahead.over b.ahead.over known rest left (λ bytes later. script_of t bytes ≡ behind p.told (still t a later)) (IsAnswer t a b (Ok (Some e)))
            (λ bytes later. script_of t bytes ≡ behind (p.told ++ e ∷ []) (still t b later))
            (λ bytes middle later was now. was ∙ ap (behind p.told) now ∙ behind-append p.told (e ∷ []) (still t b later)) p.script answer;
      }
    where
      by : (o : Option ℕ) (told : List Event) → o ≡ None → IsTold m told o → HaveNoEnd told × Follows m told
      by None told e h = h
      by (Some end) told e h = absurd (let z : ⊥ = cc in z)

  pub heard-told : (e : Event) (p : IsPlaying t m0 m a known rest w0 w) (answer : Gives a.ahead.over b.ahead.over rest left (IsAnswer t a b (Ok (Some e)))) (goes : Goes t a.here.past b.here.past (Ok (Some e)))
      → (heard e p answer goes).told ≡ p.told
  unfolding heard
  heard-told e p answer goes = refl

  -- the input failed
  pub read_cut : IsPlaying t m0 m a known rest w0 w → IsCutRun m0.show m0.object.tables m0.object known w0 w
  read_cut p =
      cut_run m0.object m0.show accepted p.told a.ahead.over a known rest w0 w
      (subst (λ (z : Tables). Gives false a.ahead.over known rest (λ bytes later. script_of z bytes ≡ behind p.told (still z a later))) tables p.script)
      (text_before_fault m0.object m0.show p.told, ([], sym (append-nil (text_before_fault m0.object m0.show p.told))), p.text)

  -- a line has a fault
  pub faulty : (fault : ScriptFault) → IsPlaying t m0 m a known rest w0 w → Gives a.ahead.over b.ahead.over rest left (IsAnswer t a b (Err (stop.Script fault)))
      → StopsAtLine fault.line known left → IsFaultyRun m0.show m0.object.tables m0.object known left w0 w fault
  faulty fault p answer stops =
      let Says : List ℕ → List ℕ → Type 0 = λ bytes later. script_of t bytes ≡ Bad fault.line fault.kind p.told in
      let all : Gives false b.ahead.over known left Says =
      gives_more false a.ahead.over b.ahead.over known rest left (λ bytes later. script_of t bytes ≡ behind p.told (still t a later)) (IsAnswer t a b (Err (stop.Script fault))) Says
      (λ bytes middle later was now. was ∙ ap (behind p.told) now ∙ ap (λ (es : List Event). Bad fault.line fault.kind es) (append-nil p.told)) p.script answer in
      record {
        events = p.told;
        script = subst (λ (z : Tables). OfScript known (λ script. script_of z script ≡ Bad fault.line fault.kind p.told)) tables (given_script b.ahead.over known left Says all);
        read = stops;
        written = p.text;
      }

-- ---- an event is told

module _ (t : Tables) (m0 m : Seen) (accepted : IsAccepted m0.object) (tables : t ≡ m0.object.tables) (b : Ahead) (known rest w0 w w1 : Option (List ℕ)) (f f1 : ℕ) (e : Event)
    (h : IsHeard t m0 m b known rest w0 w e) where
  are_here : AreEvents m0.object.tables None (h.told ++ e ∷ [])
  are_here = subst (λ (z : Tables). AreEvents z None (h.told ++ e ∷ [])) tables h.are

  same_text : text_more m.object m.show h.told e ≡ text_more m0.object m0.show h.told e
  same_text = ap (λ (p : Object). text_more p m.show h.told e) h.same.object ∙ ap (λ (s : Shown). text_more m0.object s h.told e) h.same.show

  more_text : text_before_fault m0.object m0.show (h.told ++ e ∷ []) ≡ text_before_fault m0.object m0.show h.told ++ text_more m0.object m0.show h.told e
  more_text = text_on m0.object m0.show accepted h.told e are_here h.none

  pub told_on : {T E : Type 0} (m1 : Seen) (x : T) → Puts {T = T} {E = E} w w1 f f1 (text_more m.object m.show h.told e) (Ok x) → IsBehind m1 h.told e → IsSameRun m m1
      → IsPlaying t m0 m1 b known rest w0 w1
  told_on m1 x puts behind_it same =
      record {
        told = h.told ++ e ∷ [];
        are = h.are;
        past = h.past;
        machine = subst (IsTold m1 (h.told ++ e ∷ [])) (sym (ap (λ (z : Past). z.end) (past_more at_first h.told e))) (by e behind_it);
        same = record { object = same.object ∙ h.same.object; show = same.show ∙ h.same.show };
        text =
            append_known-more w0 w w1 (text_before_fault m0.object m0.show h.told) (text_more m0.object m0.show h.told e) h.text (puts.whole ∙ ap (append_known w) same_text)
            ∙ ap (append_known w0) (sym more_text);
        script = h.script;
      }
    where
      open_end : (past_of h.told).end ≡ None
      open_end = none_ended at_first h.told h.none

      by : (e : Event) → IsBehind m1 h.told e → IsTold m1 (h.told ++ e ∷ []) (past_after (past_of h.told) e).end
      by (event.At to) is = subst (IsTold m1 (h.told ++ event.At to ∷ [])) (sym open_end) (no_end_more h.told (event.At to) h.none tt, is)
      by (event.Sense c y) is = subst (IsTold m1 (h.told ++ event.Sense c y ∷ [])) (sym open_end) (no_end_more h.told (event.Sense c y) h.none tt, is)
      by (event.Took i n) is = subst (IsTold m1 (h.told ++ event.Took i n ∷ [])) (sym open_end) (no_end_more h.told (event.Took i n) h.none tt, is)
      by (event.End to) is = (h.told, refl, is)

  -- what was told is what was heard before, and the event
  pub told_on-told : {T E : Type 0} (m1 : Seen) (x : T) (puts : Puts {T = T} {E = E} w w1 f f1 (text_more m.object m.show h.told e) (Ok x)) (behind_it : IsBehind m1 h.told e) (same : IsSameRun m m1)
      → (told_on m1 x puts behind_it same).told ≡ h.told ++ e ∷ []
  unfolding told_on
  told_on-told m1 x puts behind_it same = refl

  -- in part: the output failed
  pub told_part : {T E : Type 0} (x : E) → Puts {T = T} {E = E} w w1 f f1 (text_more m.object m.show h.told e) (Err x) → AppendsPrefix w0 w1 (text_before_fault m0.object m0.show (h.told ++ e ∷ []))
  told_part x puts =
      let o = m0.object in
      let part : AppendsPrefix w0 w1 (text_before_fault o m0.show h.told ++ (text_more o m0.show h.told e ++ [])) =
      AppendsPrefix-more w0 w w1 (text_before_fault o m0.show h.told) (text_more o m0.show h.told e) [] h.text (subst (AppendsPrefix w w1) same_text puts.part) in
      let whole : text_before_fault o m0.show h.told ++ (text_more o m0.show h.told e ++ []) ≡ text_before_fault o m0.show (h.told ++ e ∷ []) =
      ap (λ (bs : List ℕ). text_before_fault o m0.show h.told ++ bs) (append-nil (text_more o m0.show h.told e)) ∙ sym more_text in
      subst (AppendsPrefix w0 w1) whole part

  pub script_here : Gives false b.ahead.over known rest (λ bytes later. script_of m0.object.tables bytes ≡ behind (h.told ++ e ∷ []) (still m0.object.tables b later))
  script_here = subst (λ (z : Tables). Gives false b.ahead.over known rest (λ bytes later. script_of z bytes ≡ behind (h.told ++ e ∷ []) (still z b later))) tables h.script

  pub told_cut : {T E : Type 0} (x : E) → Puts {T = T} {E = E} w w1 f f1 (text_more m.object m.show h.told e) (Err x) → IsCutRun m0.show m0.object.tables m0.object known w0 w1
  told_cut x puts = cut_run m0.object m0.show accepted (h.told ++ e ∷ []) b.ahead.over b known rest w0 w1 script_here (told_part x puts)

-- a count that stood until then
pub rose_since : (first before now : ℕ) → before ≡ first → Rose before now → Rose first now
rose_since first before now same rose = subst (λ (n : ℕ). Rose n now) same rose
