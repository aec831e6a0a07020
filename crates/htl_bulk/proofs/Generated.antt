-- The generated source: what its programs are, and that they have no fault.
use Rattle.std.proofs.Common.{arith, ◌≡◌, ◌<◌, ◌≤◌, ℕ, [], length, refl, sym, ap, subst, List, Some, slice_get}
use Rattle.htl_bulk.proofs.{Alike.like_tree, Alike.alike, Findings.TableFindings, Findings.table_findings, Findings.good_tables, FormTests.kept_to_12, NameTests.name_findings, NameTests.good_names, NameTests.names_right}
use Rattle.htl_bulk.proofs.{Rows.tokens_row, Rows.names_row, Rows.tables_row, SourceLength.bytes_few, TokenTests.AreGoodTokens, TokenTests.good_tokens, TypeTests.IsExpressionOf, TypeTests.typed_at, WindowTests.schedulable}
use Rattle.htl_bulk.proofs.Words.{AreAlike, AreNamesRight, AreShort, Formed, Fun, FunctionType, NoOverload, PlainProgram, Spell, TokenList, Tokens, Tokens-unique, bounded_tree, bulk_bytes, bulk_sensor, bulk_tree, comm_item, formed, function_types, kept_all, names-in-range, one_tree-law, path_jobs, paths, printed-tokens, source-again, source_tokens, tables_of_tree, tightened, tokens_numbered, tree-bounded}

-- the programs keep the name rules, and their tables' functions are typed, break no form rule and overload no path
pub record HasNoFault (ps : List PlainProgram) : Type 0 where
  pub named : AreNamesRight ps
  pub typed : (k : ℕ) (f : FunctionType) (g : Fun) → slice_get (function_types (tables_of_tree ps)) k ≡ Some f → slice_get (tables_of_tree ps).functions k ≡ Some g → IsExpressionOf f g
  pub formed : Formed (tables_of_tree ps)
  pub schedulable : (path : ℕ) → path < paths (tables_of_tree ps) → NoOverload (tightened (path_jobs (tables_of_tree ps) path))

-- the generated source spells programs that have no fault
pub record IsGenerated (n : ℕ) : Type 0 where
  pub list : TokenList
  pub tokens : Tokens (bulk_bytes n) list
  pub short : AreShort list.tokens
  pub programs : List PlainProgram
  pub spelled : Spell list.tokens programs
  pub faultless : HasNoFault programs

some_program : (n : ℕ) → bulk_tree n ≡ [] → ⊥
some_program n e = cc

module _ (n : ℕ) (some : 1 ≤ n) (few : n ≤ 64) where
  good : AreGoodTokens (source_tokens (bulk_tree n))
  good = good_tokens (source_tokens (bulk_tree n)) (tokens_row n some few)

  pub source_fits : length (bulk_bytes n) ≤ 1048576
  source_fits = omega (arith, bytes_few (source_tokens (bulk_tree n)) good.spellable, good.count)

  no_fault : (ps : List PlainProgram) → Spell (source_tokens (bulk_tree n)) ps → like_tree (bulk_tree n) ps ≡ ps → HasNoFault ps
  no_fault ps spelled like =
      let t = tables_of_tree ps in
      let names : name_findings ps ≡ good_names = subst (λ x. name_findings x ≡ good_names) like (names_row n some few ps) in
      let found : table_findings t ≡ good_tables = subst (λ x. table_findings (tables_of_tree x) ≡ good_tables) like (tables_row n some few ps) in
      let right = names_right ps names in
      let bounded = tree-bounded (source_tokens (bulk_tree n)) ps (omega (arith, good.count)) good.spellable good.short spelled in
      let range = names-in-range ps (bounded_tree ps bounded) right in
      let kept = kept_to_12 t range (ap (λ (r : TableFindings). r.form) found) (ap (λ (r : TableFindings). r.ahead) found) in
      record {
        named = right;
        typed = λ k f g a b. typed_at (function_types t) t.functions k f g (ap (λ (r : TableFindings). r.typed) found) a b;
        formed = formed t (kept_all t range kept (ap (λ (r : TableFindings). r.refinement) found));
        schedulable = schedulable t (ap (λ (r : TableFindings). r.paths) found) (ap (λ (r : TableFindings). r.wide) found);
      }

  pub generated : IsGenerated n
  generated =
      let printed = printed-tokens (source_tokens (bulk_tree n)) good.spellable in
      let again = source-again (bulk_tree n) (some_program n) in
      record {
        list = record { tokens = source_tokens (bulk_tree n); offsets = printed.0; end = length (bulk_bytes n) };
        tokens = printed.1;
        short = good.short;
        programs = again.0;
        spelled = again.2;
        faultless = no_fault again.0 again.2 (alike (bulk_tree n) again.0 again.1);
      }

  -- any programs that it spells are the tree's, but for the numbers of the tokens; so the first communicator is the sensor
  pub sensor_comm : (list : TokenList) (programs : List PlainProgram) → Tokens (bulk_bytes n) list → Spell list.tokens programs → slice_get (tables_of_tree programs).comms 0 ≡ Some (comm_item bulk_sensor)
  unfolding generated
  sensor_comm list programs tokens spelled =
      let g = generated in
      let same : list ≡ g.list = Tokens-unique (bulk_bytes n) list g.list tokens g.tokens in
      let here : Spell g.list.tokens programs = subst (λ (l : TokenList). Spell l.tokens programs) same spelled in
      let again = source-again (bulk_tree n) (some_program n) in
      let one : programs ≡ again.0 = one_tree-law (tokens_numbered 0 (source_tokens (bulk_tree n))) programs again.0 here again.2 in
      subst (λ x. slice_get (tables_of_tree x).comms 0 ≡ Some (comm_item bulk_sensor)) (alike (bulk_tree n) programs (subst (λ x. AreAlike x (bulk_tree n)) (sym one) again.1)) refl
