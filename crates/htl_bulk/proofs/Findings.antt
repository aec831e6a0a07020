-- What the tests find in the tree and the tables of the generated program.
use Rattle.std.proofs.Common.{◌≡◌, ℕ, Bool, true, List, length, Option, None}
use Rattle.htl_bulk.proofs.{Alike.like_tree, FormTests.tried, FormTests.feeds_back, NameTests.name_findings, NameTests.good_names, TokenTests.are_good_tokens, TypeTests.are_typed, WindowTests.are_wide}
use Rattle.htl_bulk.proofs.Words.{FormFault, PlainProgram, Tables, bulk_tree, first_from, first_refinement_fault, form_fault_of, function_types, path_jobs, paths, refinement_rules, source_tokens, tables_of_tree, tightened}

-- what they find in tables
pub record TableFindings : Type 0 where
  pub typed : Bool
  pub form : Option FormFault
  pub ahead : Bool
  pub refinement : Option FormFault
  pub paths : ℕ
  pub wide : Bool

abbrev pub table_findings : Tables → TableFindings
table_findings t =
    record {
      typed = are_typed (function_types t) t.functions;
      form = first_from (form_fault_of t) 0 tried;
      ahead = feeds_back t (length t.invs);
      refinement = first_refinement_fault t refinement_rules;
      paths = paths t;
      wide = are_wide (tightened (path_jobs t 0));
    }

-- what they find where nothing is wrong
abbrev pub good_tables : TableFindings
good_tables = record { typed = true; form = None; ahead = true; refinement = None; paths = 1; wide = true }

-- the tests of the program with n modules find nothing wrong, whatever the numbers of its tokens
abbrev pub NamesRow : ℕ → Type 0
NamesRow n = (x : List PlainProgram) → name_findings (like_tree (bulk_tree n) x) ≡ good_names

abbrev pub TablesRow : ℕ → Type 0
TablesRow n = (x : List PlainProgram) → table_findings (tables_of_tree (like_tree (bulk_tree n) x)) ≡ good_tables

abbrev pub TokensRow : ℕ → Type 0
TokensRow n = are_good_tokens (source_tokens (bulk_tree n)) ≡ true
