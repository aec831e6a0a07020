use Rattle.std.proofs.Common.{◌≡◌, List, Option, length, sym, ap, ◌∙◌, subst}
use Rattle.htl_base.proofs.Words.{append_known}
use Rattle.htl_edge.specs.Content.{AppendsPrefix}
use Rattle.htl_model.specs.{Tables.Tables, declared.parts.Inv.Inv}
use Rattle.htl_times.specs.declared.greatest.Greatest.{Greatest}
use Rattle.htl_times_top.proofs.Rows.{front_is, AreTimes-noted}
use Rattle.htl_times_top.specs.Texts.{times_text}
use Rattle.htl_times_top.proofs.top.tell.Goals as goal

pub returns-in-Ok-put_times-clause-answer : goal.returns-in-Ok-put_times-clause-answer
returns-in-Ok-put_times-clause-answer g c =
    let invs : c.as_slice.result.now ≡ c.args.o.now.tables.invs =
    c.as_slice.ensures ∙ ap (λ (t : Tables). t.invs) (sym c.parts.ensures.value) ∙ ap (λ (t : Tables). t.invs) c.tables-t.ensures.value in
    let noted = c.latest_finishes-busiest.new.rows in
    let count = c.latest_finishes-busiest.ensures.len in
    let same = front_is (Option Greatest) _ noted c.as_slice-2.result.now _ c.as_slice-2.ensures.value (count ∙ c.as_mut_slice.ensures.len) in
    record {
      rows = c.as_slice-2.result.now;
      busiest = c.latest_finishes-busiest.result;
      are =
          AreTimes-noted c.args.o.now c.as_slice-2.result.now noted c.latest_finishes-busiest.result _ same count
          (c.as_mut_slice.ensures.len ∙ c.in-Ok.ensures.len ∙ ap (λ (is : List Inv). length is) invs)
          c.latest_finishes-busiest.ensures.latest c.latest_finishes-busiest.ensures.no_later c.latest_finishes-busiest.ensures.busiest;
      fact =
          subst (λ (t : Tables). g.W.Sink.written c.put_times.new.sink ≡ append_known (g.W.Sink.written c.args.out.now) (times_text t c.as_slice-2.result.now c.latest_finishes-busiest.result))
          c.tables-t.ensures.value c.in-Ok-put_times.ensures.whole;
    }

pub returns-clause-answer : goal.returns-clause-answer
returns-clause-answer g c =
    let invs : c.as_slice.result.now ≡ c.args.o.now.tables.invs =
    c.as_slice.ensures ∙ ap (λ (t : Tables). t.invs) (sym c.parts.ensures.value) ∙ ap (λ (t : Tables). t.invs) c.tables-t.ensures.value in
    let noted = c.latest_finishes-busiest.new.rows in
    let count = c.latest_finishes-busiest.ensures.len in
    let same = front_is (Option Greatest) _ noted c.as_slice-2.result.now _ c.as_slice-2.ensures.value (count ∙ c.as_mut_slice.ensures.len) in (
      c.in-Err.ensures.cause.refused,
      record {
        rows = c.as_slice-2.result.now;
        busiest = c.latest_finishes-busiest.result;
        are =
            AreTimes-noted c.args.o.now c.as_slice-2.result.now noted c.latest_finishes-busiest.result _ same count
            (c.as_mut_slice.ensures.len ∙ c.in-Ok.ensures.len ∙ ap (λ (is : List Inv). length is) invs)
            c.latest_finishes-busiest.ensures.latest c.latest_finishes-busiest.ensures.no_later c.latest_finishes-busiest.ensures.busiest;
        fact =
            subst (λ (t : Tables). AppendsPrefix (g.W.Sink.written c.args.out.now) (g.W.Sink.written c.put_times.new.sink) (times_text t c.as_slice-2.result.now c.latest_finishes-busiest.result))
            c.tables-t.ensures.value c.in-Err.ensures.part;
      },
    )
