-- The tests of each rule find exactly what breaks it.
use Rattle.std.proofs.Common.{◌≡◌, ℕ, Some}
use Rattle.htl_form.proofs.Words.{slice_get, Mode, Inv, End, Tables, AreInRange, input_types, output_types, Breach, breach, law_of, Tests, tests, Rule}
use Rattle.htl_form.specs.declared.rule.Rule.TheVariants as R
use Rattle.htl_form.proofs.{Finding.Finds, Finding.finds_nothing, PeriodLaws.module_period_is, PeriodLaws.divides_is, PeriodLaws.end_divides_is, FrameLaws.frame_fault_is, PortLaws.unwritten_is, PortLaws.rewritten_is, CycleLaws.cycle_is}
use Rattle.htl_form.proofs.{EndLaws.read_offset_is, EndLaws.write_offset_is, EndLaws.count_is, EndLaws.type_is, EndLaws.window_is, EndLaws.worst_case_is, EndLaws.abstract_read_is, EndLaws.sensor_is, WriterLaws.writer_is}

-- the tests find what makes up the breach, part by part
pub record Judges (t : Tables) (f : Tests) (b : Breach) : Type 0 where
  pub mode : (m : ℕ) (x : Mode) → slice_get t.modes m ≡ Some x → Finds (f.mode m x) (b.mode m x)
  pub inv : (k : ℕ) (i : Inv) → slice_get t.invs k ≡ Some i → Finds (f.inv k i) (b.inv k i)
  pub input : (k : ℕ) (i : Inv) (j : ℕ) (e : End) → slice_get t.invs k ≡ Some i → slice_get i.reads j ≡ Some e → Finds (f.input k i j e) (b.input k i j e)
  pub output : (k : ℕ) (i : Inv) (j : ℕ) (e : End) → slice_get t.invs k ≡ Some i → slice_get i.writes j ≡ Some e → Finds (f.output k i j e) (b.output k i j e)
  pub test : (m c : ℕ) → Finds (f.test m c) (b.test m c)

pub judges : (t : Tables) → AreInRange t → (r : Rule) → Judges t (tests t r) (breach t (law_of r))
judges t r R.ModulePeriod =
    record {
      mode = λ m x at. module_period_is t x;
      inv = λ k i at. finds_nothing;
      input = λ k i j e at read. finds_nothing;
      output = λ k i j e at out. finds_nothing;
      test = λ m c. finds_nothing;
    }
judges t r R.FrameLimits =
    record {
      mode = λ m x at. frame_fault_is t r m x at;
      inv = λ k i at. finds_nothing;
      input = λ k i j e at read. finds_nothing;
      output = λ k i j e at out. finds_nothing;
      test = λ m c. finds_nothing;
    }
judges t r R.Divides =
    record {
      mode = λ m x at. finds_nothing;
      inv = λ k i at. finds_nothing;
      input = λ k i j e at read. end_divides_is t i e;
      output = λ k i j e at out. end_divides_is t i e;
      test = λ m c. divides_is t m c;
    }
judges t r R.Offsets =
    record {
      mode = λ m x at. finds_nothing;
      inv = λ k i at. finds_nothing;
      input = λ k i j e at read. read_offset_is t i e;
      output = λ k i j e at out. write_offset_is t i e;
      test = λ m c. finds_nothing;
    }
judges t r R.Ends =
    record {
      mode = λ m x at. finds_nothing;
      inv = λ k i at. count_is t i;
      input = λ k i j e at read. type_is t (input_types t i.task) j e;
      output = λ k i j e at out. type_is t (output_types t i.task) j e;
      test = λ m c. finds_nothing;
    }
judges t r R.Windows =
    record {
      mode = λ m x at. finds_nothing;
      inv = λ k i at. window_is t i;
      input = λ k i j e at read. finds_nothing;
      output = λ k i j e at out. finds_nothing;
      test = λ m c. finds_nothing;
    }
judges t r R.WorstCases =
    record {
      mode = λ m x at. finds_nothing;
      inv = λ k i at. worst_case_is t i;
      input = λ k i j e at read. finds_nothing;
      output = λ k i j e at out. finds_nothing;
      test = λ m c. finds_nothing;
    }
judges t r R.PortWriters =
    record {
      mode = λ m x at. finds_nothing;
      inv = λ k i at. finds_nothing;
      input = λ k i j e at read. unwritten_is t e r;
      output = λ k i j e at out. rewritten_is t k i j e r at out;
      test = λ m c. finds_nothing;
    }
judges t r R.PortCycles =
    record {
      mode = λ m x at. finds_nothing;
      inv = λ k i at. cycle_is t k i r at;
      input = λ k i j e at read. finds_nothing;
      output = λ k i j e at out. finds_nothing;
      test = λ m c. finds_nothing;
    }
judges t r R.AbstractPorts =
    record {
      mode = λ m x at. finds_nothing;
      inv = λ k i at. finds_nothing;
      input = λ k i j e at read. abstract_read_is t i j e;
      output = λ k i j e at out. finds_nothing;
      test = λ m c. finds_nothing;
    }
judges t r R.Sensors =
    record {
      mode = λ m x at. finds_nothing;
      inv = λ k i at. finds_nothing;
      input = λ k i j e at read. finds_nothing;
      output = λ k i j e at out. sensor_is t j e;
      test = λ m c. finds_nothing;
    }
judges t r R.ConcreteWriters =
    record {
      mode = λ m x at. finds_nothing;
      inv = λ k i at. finds_nothing;
      input = λ k i j e at read. finds_nothing;
      output = λ k i j e at out. writer_is t k i j e r at out;
      test = λ m c. finds_nothing;
    }
