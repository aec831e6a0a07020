use Rattle.std.proofs.Common.{◌≡◌, ◌<◌, ◌∙◌, ℕ, cond, eqb, get_or, length, not, pos, set, length-set, rules, arith, ap, sym, subst}
use Rattle.htl_machine.proofs.{Words.slice_get_within, Words.same, Words.Seen, Words.Follows, Words.IsSensorValue, Words.shown_as, Words.is_marked, Calling.sense_follows, Quiet.nothing_due, ShownOn.sensed_waits}
use Rattle.htl_machine.proofs.machine.Machine.sense.Goals as goal

pub returns-clause-follows : goal.returns-clause-follows
returns-clause-follows c = λ es f.
    let e : c.sense.new.self.shows ≡ set c.self.inside.sensors.shows c.args.comm c.args.x = search rules in
    rw e
    (sense_follows _ es c.args.comm c.args.x c.self.invariant.accepted
    (subst (λ (z : Seen). IsSensorValue z.object.tables c.args.comm c.args.x) (sym c.self.view_is) c.requires.sensor)
    (subst (λ (z : Seen). Follows z es) (sym c.self.view_is) f))

pub invariant_of-self : goal.invariant_of-self
invariant_of-self c =
    let kept = c.self.invariant in
    let s = subst (λ (z : Seen). IsSensorValue z.object.tables c.args.comm c.args.x) (sym c.self.view_is) c.requires.sensor in
    let room : c.args.comm < length c.self.inside.sensors.shows = omega (arith, slice_get_within c.self.inside.loaded.now.tables.comms c.args.comm s.comm s.known, kept.all_shows) in
    let e : c.sense.new.self.shows ≡ set c.self.inside.sensors.shows c.args.comm c.args.x = search rules in
    let had : c.value-has.result ≡ get_or c.self.inside.machines.works.world.values c.args.comm (pos 0) = search rules in
    let marks : (k : ℕ) → is_marked c.sense.new.self.waiting k ≡ cond (eqb k c.args.comm) (not (same c.args.x c.value-has.result)) (is_marked c.self.inside.sensors.waiting k) = λ k. search rules in
    record {
      accepted = kept.accepted;
      all_shows = ap length e ∙ length-set c.self.inside.sensors.shows c.args.comm c.args.x ∙ kept.all_shows;
      all_takes = kept.all_takes;
      few = kept.few;
      stands = kept.stands;
      marked = kept.marked;
      waiting = λ free.
          sensed_waits c.self.inside.loaded.now.tables c.self.inside.sensors c.sense.new.self c.self.inside.machines.works.world.values c.args.comm c.args.x c.value-has.result (kept.waiting free) room e had marks;
      empty = kept.empty;
      quiet = λ free. nothing_due _ _;
    }

pub value-has-requires : goal.value-has-requires
value-has-requires c =
    let s = subst (λ (z : Seen). IsSensorValue z.object.tables c.args.comm c.args.x) (sym c.self.view_is) c.requires.sensor in
    let f = subst (λ (z : Seen). Follows z c.requires.follows.0) (sym c.self.view_is) c.requires.follows.1 in
    omega (arith, slice_get_within c.self.inside.loaded.now.tables.comms c.args.comm s.comm s.known, f.before.values.shaped.values.count)

pub sense-requires-clause-few : goal.sense-requires-clause-few
sense-requires-clause-few c =
    let s = subst (λ (z : Seen). IsSensorValue z.object.tables c.args.comm c.args.x) (sym c.self.view_is) c.requires.sensor in
    omega (arith, slice_get_within c.self.inside.loaded.now.tables.comms c.args.comm s.comm s.known, c.self.invariant.accepted.spelled.formed.ranges.tables.few_comms)

pub sense-requires-clause-known : goal.sense-requires-clause-known
sense-requires-clause-known c =
    let s = subst (λ (z : Seen). IsSensorValue z.object.tables c.args.comm c.args.x) (sym c.self.view_is) c.requires.sensor in
    omega (arith, slice_get_within c.self.inside.loaded.now.tables.comms c.args.comm s.comm s.known, c.self.invariant.all_shows)

pub returns-clause-seen : goal.returns-clause-seen
returns-clause-seen c =
    let e : c.sense.new.self.shows ≡ set c.self.inside.sensors.shows c.args.comm c.args.x = search rules in
    rw e (ap (λ (z : Seen). record z { run_state = shown_as c.args.comm c.args.x z.run_state }) c.self.view_is)
