use Rattle.htl_console.proofs.items.show_platform.Goals as goal

pub returns : goal.returns
returns g c =
    rw (c.as_bytes-2.ensures.bytes, c.text-3.ensures.bytes, c.text-2.ensures.bytes, c.as_bytes.ensures.value, c.text.ensures.bytes, c.new-line.ensures.bytes)
    at c.put_all.ensures
