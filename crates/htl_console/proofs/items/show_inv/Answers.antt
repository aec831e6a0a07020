use Rattle.htl_console.proofs.items.show_inv.Goals as goal

pub returns : goal.returns
returns g c =
    rw (
      c.as_bytes.ensures.bytes,
      c.as_bytes-2.ensures.bytes,
      c.number-3.ensures.bytes,
      c.window_end.ensures,
      c.text-4.ensures.bytes,
      c.number-2.ensures.bytes,
      c.release.ensures,
      c.text-3.ensures.bytes,
      c.number.ensures.bytes,
      c.task_worst.ensures,
      c.text-2.ensures.bytes,
      c.put_full_inv.ensures.bytes,
      c.text.ensures.bytes,
      c.new-line.ensures.bytes,
      c.text-5.ensures.bytes,
      c.put_parent_inv.ensures.bytes,
      c.put_abstract.ensures.bytes,
      c.new-options.ensures.bytes,
    ) at c.put_both.ensures
