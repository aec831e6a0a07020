use Rattle.std.proofs.Common.{◌<◌, ◌≤◌, ◌%◌, ℕ, List, Option, Some, ne_eqb, length, sym, ap, ◌∙◌, subst, arith}
use Rattle.htl_machine.proofs.Words.{IsSelection, Round, choice_of, new_jobs, Selection, choice_few, start_early, IsNumbering, first_list, next_at}
use Rattle.htl_machine.proofs.Followed.{later_can, later_begun, later_all, first_can, first_begun, first_all, room_there, stands_on}
use Rattle.htl_machine.proofs.path.Path.begin.Goals as goal

pub turn-requires-clause-choice : goal.turn-requires-clause-choice
turn-requires-clause-choice c =
    let t = c.args.t.now in
    let h = c.requires.follows in
    let j = (next_at t c.args.m.now.calendar.modes c.args.at c.args.self.now.list).number in
    subst (λ a. choice_of t c.note_modes.new.modes.modes a < 1024) h.start
    (choice_few t c.keeps_ranges.ensures.ranges c.requires.limit j h.there c.note_modes.new.modes.modes (subst (IsSelection t) (sym c.note_modes.ensures) c.requires.selection))

pub turn-requires-clause-first : goal.turn-requires-clause-first
turn-requires-clause-first c = λ yes now.
    let t = c.args.t.now in
    let h = c.requires.path.first now in
    let is = c.note_modes.ensures ∙ sym (sym c.as_slice.ensures ∙ c.are_modes-same.ensures yes) in
    record {
      list = h.list ∙ ap (λ (ms : List (Option ℕ)). Some (first_list t ms)) (sym is);
      many = h.many ∙ ap (λ (ms : List (Option ℕ)). length (new_jobs t ms 0 0)) (sym is);
      are = h.are ∙ ap (λ (ms : List (Option ℕ)). new_jobs t ms 0 0) (sym is);
    }

pub turn-requires-clause-early : goal.turn-requires-clause-early
turn-requires-clause-early c =
    let t = c.args.t.now in
    let h = c.requires.follows in
    let j = (next_at t c.args.m.now.calendar.modes c.args.at c.args.self.now.list).number in
    omega (arith, start_early t c.keeps_ranges.ensures.ranges c.requires.limit j h.there, h.start, ap (λ f. c.args.at % f) c.requires.path.numbering.frame)

pub add_jobs-requires-clause-can : goal.add_jobs-requires-clause-can
add_jobs-requires-clause-can c =
    (later_can c.args.t.now c.args.m.now.calendar.modes c.note_modes.new.modes.modes c.args.takes.now c.args.at c.args.self.now.numbering.frame c.args.self.now.count c.kept_positions-from.result c.turn.new.self.count c.args.self.now.jobs c.turn.new.self.jobs c.args.s_machine.now
    c.note_modes.ensures c.requires.path.numbering.frame (ne_eqb _ 0 c.if-offset-eq0.false) c.requires.path.many c.requires.path.are c.kept_positions-from.ensures c.turn.ensures.count c.turn.ensures.jobs c.requires.follows.can).1

pub returns-else-offset-eq0-clause-path : goal.returns-else-offset-eq0-clause-path
returns-else-offset-eq0-clause-path c =
    let all =
    later_all c.args.t.now c.args.m.now.calendar.modes c.note_modes.new.modes.modes c.args.takes.now c.args.at c.args.self.now.numbering.frame c.args.self.now.count c.kept_positions-from.result c.turn.new.self.count c.args.self.now.jobs c.turn.new.self.jobs c.args.s_machine.now
    c.note_modes.ensures c.requires.path.numbering.frame (ne_eqb _ 0 c.if-offset-eq0.false) c.requires.path.many c.requires.path.are c.kept_positions-from.ensures c.turn.ensures.count c.turn.ensures.jobs c.add_jobs.new.s_machine c.add_jobs.ensures in
    let begun =
    later_begun c.args.t.now c.args.m.now.calendar.modes c.note_modes.new.modes.modes c.args.takes.now c.args.at c.args.self.now.numbering.frame c.args.self.now.count c.kept_positions-from.result c.turn.new.self.count c.args.self.now.jobs c.turn.new.self.jobs c.args.s_machine.now
    c.note_modes.ensures c.requires.path.numbering.frame (ne_eqb _ 0 c.if-offset-eq0.false) c.requires.path.many c.requires.path.are c.kept_positions-from.ensures c.turn.ensures.count c.turn.ensures.jobs c.add_jobs.new.s_machine c.add_jobs.ensures in
    stands_on c.args.t.now c.turn.new.self c.add_jobs.new.s_machine.jobs (subst (IsNumbering c.args.t.now) (sym c.turn.ensures.numbering) c.requires.path.numbering)
    (ap (λ (s : Selection). length s.modes) c.turn.ensures.modes ∙ ap length c.note_modes.ensures ∙ c.requires.selection.same)
    (subst (λ (d : Round). length d.jobs ≤ 128) (sym begun) c.requires.follows.few) all c.turn.ensures.first

pub returns-else-offset-eq0-clause-s_machine : goal.returns-else-offset-eq0-clause-s_machine
returns-else-offset-eq0-clause-s_machine c =
    later_begun c.args.t.now c.args.m.now.calendar.modes c.note_modes.new.modes.modes c.args.takes.now c.args.at c.args.self.now.numbering.frame c.args.self.now.count c.kept_positions-from.result c.turn.new.self.count c.args.self.now.jobs c.turn.new.self.jobs c.args.s_machine.now
    c.note_modes.ensures c.requires.path.numbering.frame (ne_eqb _ 0 c.if-offset-eq0.false) c.requires.path.many c.requires.path.are c.kept_positions-from.ensures c.turn.ensures.count c.turn.ensures.jobs c.add_jobs.new.s_machine c.add_jobs.ensures

pub turn-requires-clause-there : goal.turn-requires-clause-there
turn-requires-clause-there c = c.requires.follows.there

pub turn-requires-clause-few : goal.turn-requires-clause-few
turn-requires-clause-few c =
    subst (λ (ms : List (Option ℕ)). (next_at c.args.t.now ms c.args.at c.args.self.now.list).node ≤ 4294967295) (sym c.note_modes.ensures) c.requires.follows.node

pub turn-requires-clause-room : goal.turn-requires-clause-room
turn-requires-clause-room c =
    room_there c.args.t.now c.args.m.now.calendar.modes c.note_modes.new.modes.modes c.args.takes.now c.args.at c.args.self.now.numbering.frame c.args.self.now.count c.kept_positions-from.result c.args.s_machine.now
    c.note_modes.ensures c.requires.path.numbering.frame c.requires.path.many c.kept_positions-from.ensures c.requires.follows.few

pub start_jobs-requires-clause-lengths : goal.start_jobs-requires-clause-lengths
start_jobs-requires-clause-lengths c =
    (first_can c.args.t.now c.args.m.now.calendar.modes c.note_modes.new.modes.modes c.args.takes.now c.args.at c.args.self.now.numbering.frame c.args.self.now.count c.kept_positions-from.result c.turn.new.self.count c.args.self.now.jobs c.turn.new.self.jobs c.args.s_machine.now
    c.note_modes.ensures c.requires.path.numbering.frame c.if-offset-eq0.true c.kept_positions-from.ensures c.turn.ensures.count c.turn.ensures.jobs c.requires.follows.can).0

pub start_jobs-requires-clause-worst : goal.start_jobs-requires-clause-worst
start_jobs-requires-clause-worst c =
    (first_can c.args.t.now c.args.m.now.calendar.modes c.note_modes.new.modes.modes c.args.takes.now c.args.at c.args.self.now.numbering.frame c.args.self.now.count c.kept_positions-from.result c.turn.new.self.count c.args.self.now.jobs c.turn.new.self.jobs c.args.s_machine.now
    c.note_modes.ensures c.requires.path.numbering.frame c.if-offset-eq0.true c.kept_positions-from.ensures c.turn.ensures.count c.turn.ensures.jobs c.requires.follows.can).1

pub returns-then-offset-eq0-clause-path : goal.returns-then-offset-eq0-clause-path
returns-then-offset-eq0-clause-path c =
    let all =
    first_all c.args.t.now c.args.m.now.calendar.modes c.note_modes.new.modes.modes c.args.takes.now c.args.at c.args.self.now.numbering.frame c.args.self.now.count c.kept_positions-from.result c.turn.new.self.count c.args.self.now.jobs c.turn.new.self.jobs c.args.s_machine.now
    c.note_modes.ensures c.requires.path.numbering.frame c.if-offset-eq0.true c.kept_positions-from.ensures c.turn.ensures.count c.turn.ensures.jobs c.start_jobs.new.s_machine c.start_jobs.ensures in
    let begun =
    first_begun c.args.t.now c.args.m.now.calendar.modes c.note_modes.new.modes.modes c.args.takes.now c.args.at c.args.self.now.numbering.frame c.args.self.now.count c.kept_positions-from.result c.turn.new.self.count c.args.self.now.jobs c.turn.new.self.jobs c.args.s_machine.now
    c.note_modes.ensures c.requires.path.numbering.frame c.if-offset-eq0.true c.kept_positions-from.ensures c.turn.ensures.count c.turn.ensures.jobs c.start_jobs.new.s_machine c.start_jobs.ensures in
    stands_on c.args.t.now c.turn.new.self c.start_jobs.new.s_machine.jobs (subst (IsNumbering c.args.t.now) (sym c.turn.ensures.numbering) c.requires.path.numbering)
    (ap (λ (s : Selection). length s.modes) c.turn.ensures.modes ∙ ap length c.note_modes.ensures ∙ c.requires.selection.same)
    (subst (λ (d : Round). length d.jobs ≤ 128) (sym begun) c.requires.follows.few) all c.turn.ensures.first

pub returns-then-offset-eq0-clause-s_machine : goal.returns-then-offset-eq0-clause-s_machine
returns-then-offset-eq0-clause-s_machine c =
    first_begun c.args.t.now c.args.m.now.calendar.modes c.note_modes.new.modes.modes c.args.takes.now c.args.at c.args.self.now.numbering.frame c.args.self.now.count c.kept_positions-from.result c.turn.new.self.count c.args.self.now.jobs c.turn.new.self.jobs c.args.s_machine.now
    c.note_modes.ensures c.requires.path.numbering.frame c.if-offset-eq0.true c.kept_positions-from.ensures c.turn.ensures.count c.turn.ensures.jobs c.start_jobs.new.s_machine c.start_jobs.ensures

pub returns-then-offset-eq0-clause-list : goal.returns-then-offset-eq0-clause-list
returns-then-offset-eq0-clause-list c =
    c.turn.ensures.list ∙ ap (λ (ms : List (Option ℕ)). Some (next_at c.args.t.now ms c.args.at c.args.self.now.list)) c.note_modes.ensures

pub returns-else-offset-eq0-clause-list : goal.returns-else-offset-eq0-clause-list
returns-else-offset-eq0-clause-list c =
    c.turn.ensures.list ∙ ap (λ (ms : List (Option ℕ)). Some (next_at c.args.t.now ms c.args.at c.args.self.now.list)) c.note_modes.ensures
