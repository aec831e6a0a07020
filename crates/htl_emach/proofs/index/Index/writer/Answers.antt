use Rattle.std.proofs.Common.{◌≡◌, ◌<◌, true, None, length, get_or, sym, ap, ◌∙◌, subst}
use Rattle.htl_emach.proofs.{Words.Indices, Words.port_writers, Words.writer_of, Words.is_own, Words.length-list_to, Words.get_list_to, IndexedPorts.own_within, IndexedPorts.own_writer}
use Rattle.htl_emach.proofs.index.Index.writer.Goals as goal

pub bounds-as_slice-port : goal.bounds-as_slice-port
bounds-as_slice-port c =
    let same : c.as_slice.result.now ≡ port_writers c.args.t.now = c.as_slice.ensures ∙ ap (λ (i : Indices). i.writers) (c.self.view_is ∙ c.requires.index) in
    let own : is_own c.args.t.now c.args.mode c.args.port ≡ true = sym c.is_own.ensures ∙ c.if-is_own.true in
    subst (λ xs. c.args.port < length xs) (sym same) (subst (λ n. c.args.port < n) (sym (length-list_to (writer_of c.args.t.now) (length c.args.t.now.ports))) (own_within c.args.t.now c.args.mode c.args.port own))

pub returns-then-is_own : goal.returns-then-is_own
returns-then-is_own c =
    let same : c.as_slice.result.now ≡ port_writers c.args.t.now = c.as_slice.ensures ∙ ap (λ (i : Indices). i.writers) (c.self.view_is ∙ c.requires.index) in
    let own : is_own c.args.t.now c.args.mode c.args.port ≡ true = sym c.is_own.ensures ∙ c.if-is_own.true in
    ap (λ xs. get_or xs c.args.port None) same
    ∙ get_list_to (writer_of c.args.t.now) (length c.args.t.now.ports) c.args.port None (own_within c.args.t.now c.args.mode c.args.port own)
    ∙ own_writer c.args.t.now c.args.mode c.args.port own
