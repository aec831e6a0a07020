use Rattle.std.proofs.Common.{rules, ◌≡◌, ◌++◌}
use Rattle.std.specs.Fmt.{signed_decimal}
use Rattle.htl_console.proofs.items.show_comm.Goals as goal

pub returns : goal.returns
returns g c =
    let signed : c.signed.new.self ≡ c.text-6.new.self ++ signed_decimal c.args.comm.now.init = search rules in
    rw (
      c.as_bytes-2.ensures.bytes,
      c.text-7.ensures.bytes,
      signed,
      c.text-6.ensures.bytes,
      c.number.ensures.bytes,
      c.text-5.ensures.bytes,
      c.text-4.ensures.bytes,
      c.type_word.ensures.word,
      c.text-3.ensures.bytes,
      c.text-2.ensures.bytes,
      c.as_bytes.ensures.value,
      c.text.ensures.bytes,
      c.comm_word.ensures.word,
      c.new-line.ensures.bytes,
    ) at c.put_all.ensures
