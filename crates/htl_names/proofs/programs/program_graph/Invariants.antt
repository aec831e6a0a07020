use Rattle.std.proofs.Common.{◌≡◌, ◌++◌, map, drop, fold, replicate, length}
use Rattle.htl_names.proofs.Words.{program_of, map_at, flat_map_at, with_refinement, refines_none, program_refinements}
use Rattle.htl_names.proofs.programs.program_graph.Given as goal

abbrev pub invariant-loop-k : goal.invariant-loop-k
invariant-loop-k l =
    record {
      rows : l.rows.items ++ map_at (program_refinements l.symbols) l.k (map program_of (drop l.k l.programs)) ≡ map_at (program_refinements l.symbols) 0 (map program_of l.programs);
      refined : fold with_refinement l.refined.items (flat_map_at (program_refinements l.symbols) l.k (map program_of (drop l.k l.programs)))
          ≡ fold with_refinement (replicate (length l.programs) refines_none) (flat_map_at (program_refinements l.symbols) 0 (map program_of l.programs));
    }
