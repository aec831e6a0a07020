use Rattle.std.proofs.Common.{ap, ◌∙◌}
use Rattle.htl_object.proofs.{Words.IfOk-weaker, Words.object_bytes, Words.object_in, Appends.puts_whole, ObjectLaws.says_itself}
use Rattle.htl_object.proofs.encoding.encode.Goals as goal

pub returns-clause-spelled : goal.returns-clause-spelled
returns-clause-spelled c =
    IfOk-weaker c.into_items.result _ _ (λ bytes. puts_whole (object_bytes c.args.o.now) bytes.items c.new-out.result c.put_object.new.out c.new-out.ensures c.in_ok-put_object.ensures.spelled) c.into_items.ensures

pub returns-clause-again : goal.returns-clause-again
returns-clause-again c =
    let o = c.args.o.now in
    IfOk-weaker c.into_items.result _ _ (λ bytes all.
    ap object_in (puts_whole (object_bytes o) bytes.items c.new-out.result c.put_object.new.out c.new-out.ensures c.in_ok-put_object.ensures.spelled all)
    ∙ says_itself o (record { types = c.in_ok-put_object.ensures.types; ranges = c.requires })) c.into_items.ensures
