-- What is counted once before the rules are tried.
use Rattle.htl_model.specs.Tables.{Tables}
use Rattle.htl_form.specs.{AbstractWriters.is_abstractly_written, AbstractWriters.MarksPorts, FrameFaults.IsFrameAnswer, Surveys.IsSurveyOf, declared.overview.Overview.Overview}

-- The overview is that of these tables.
pub record IsOverviewOf (t : Tables) (overview : Overview) : Type 0 where
  pub survey : IsSurveyOf t overview.survey
  pub marks : MarksPorts (is_abstractly_written t) overview.abstract_ports.marks
  pub frame : IsFrameAnswer t overview.frame
