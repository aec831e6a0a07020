use Rattle.htl_part_tests.proofs.objects.patch_tables_tests.patched.Goals as goal

pub patch-requires : goal.patch-requires
patch-requires c = c.in-Ok.ensures.found.0.ranges
