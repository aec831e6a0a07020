use Rattle.htl_model.proofs.{Words.subst, Words.AreCode, CodeLaws.code_held}
use Rattle.htl_model.proofs.tables.Tables.copy.Goals as goal

pub copy_parts-requires : goal.copy_parts-requires
copy_parts-requires c = code_held c.parts.result.now.functions (subst AreCode c.parts.ensures.value c.requires)
