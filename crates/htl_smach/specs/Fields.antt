-- The frame so far that a machine's fields hold.
use Rattle.std.specs.Prelude.{take}
use Rattle.htl_smach.specs.{Rounds.Round, States.flags, declared.machine.SMach.TheInside.Inside}

abbrev pub inside_round : Inside → Round
inside_round m =
    record {
      running = m.running;
      start = m.start;
      jobs = take m.count m.jobs;
      lengths = take m.count m.lengths;
      released = flags m.count m.states.released;
      place = m.place;
      first = record { time = m.from; left = take m.count m.first };
      point = record { time = m.time; left = take m.count m.left };
    }
