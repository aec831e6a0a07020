-- The words of sources' trees and of tables, and what keys, places and faults are, passed on from one place. Declares nothing.
pub use Rattle.htl_base.specs.declared.Ty.{Ty}
pub use Rattle.htl_model.specs.{Lists.list_to, Tables.Formula, Tables.Fun, Tables.Tables, Tables.greatest}
pub use Rattle.htl_names.specs.{declared.fault.NameFault.NameFault, declared.key.Entry.Entry, declared.key.Key.Key, declared.key.Scope.Scope, declared.key.Space.Space, declared.key.Use.Use, declared.place.ModeAt.ModeAt}
pub use Rattle.htl_names.specs.{declared.place.ModuleAt.ModuleAt, declared.programs.RefinedModes.RefinedModes, declared.programs.Refinement.Refinement}
pub use Rattle.htl_text.specs.Bounds.{IsBounded, comms_of, invokes_of, modes_of, modules_of, names_of, out_params, out_values, ports_of, switches_of, tasks_of, tree_nodes}
pub use Rattle.htl_text.specs.Nodes.{Abstract, Concrete, PlainMode, PlainModule, PlainOut, PlainOuts, PlainProgram, PlainSwitch, PlainTask, mode_of, module_of, out_of, program_of, switch_of, task_of}
pub use Rattle.htl_text.specs.{declared.tree.CommNode.CommNode, declared.tree.ConstNode.ConstNode, declared.tree.EndNode.EndNode, declared.tree.Id.Id, declared.tree.InvokeNode.InvokeNode, declared.tree.ParamNode.ParamNode}
