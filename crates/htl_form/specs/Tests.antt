-- What the tests of each rule find.
use Rattle.htl_model.specs.{Search.Tests, Search.silent, Tables.Tables, EndRules.input_types, EndRules.output_types}
use Rattle.htl_form.specs.{FrameFaults.frame_fault, PeriodFaults.module_period_fault, PeriodFaults.divides_fault, PeriodFaults.end_divides_fault, WindowFaults.window_fault, WindowFaults.worst_case_fault, Cycles.cycle_fault}
use Rattle.htl_form.specs.{EndFaults.read_offset_fault, EndFaults.write_offset_fault, EndFaults.count_fault, EndFaults.type_fault, EndFaults.abstract_read_fault, EndFaults.sensor_fault, WriterFaults.writer_fault, declared.rule.Rule.Rule}
use Rattle.htl_form.specs.PortFaults.{unwritten_fault, rewritten_fault}
use Rattle.htl_form.specs.declared.rule.Rule.TheVariants as R

abbrev pub tests : Tables → Rule → Tests
tests t R.ModulePeriod = record silent { mode = λ m x. module_period_fault t x }
tests t R.FrameLimits = record silent { mode = λ m x. frame_fault t m }
tests t R.Divides = record silent { input = λ k i j e. end_divides_fault t i e; output = λ k i j e. end_divides_fault t i e; test = λ m c. divides_fault t m c }
tests t R.Offsets = record silent { input = λ k i j e. read_offset_fault t i e; output = λ k i j e. write_offset_fault t i e }
tests t R.Ends =
    record silent {
      inv = λ k i. count_fault t i;
      input = λ k i j e. type_fault t (input_types t i.task) j e;
      output = λ k i j e. type_fault t (output_types t i.task) j e;
    }
tests t R.Windows = record silent { inv = λ k i. window_fault t i }
tests t R.WorstCases = record silent { inv = λ k i. worst_case_fault t i }
tests t R.PortWriters = record silent { input = λ k i j e. unwritten_fault t e; output = λ k i j e. rewritten_fault t k i j e }
tests t R.PortCycles = record silent { inv = λ k i. cycle_fault t k i }
tests t R.AbstractPorts = record silent { input = λ k i j e. abstract_read_fault t i j e }
tests t R.Sensors = record silent { output = λ k i j e. sensor_fault t j e }
tests t R.ConcreteWriters = record silent { output = λ k i j e. writer_fault t k i j e }
