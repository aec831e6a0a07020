use Rattle.htl_top.proofs.source.fetch_source.Goals as goal

pub returns-in-Err-TooLong-clause-stopped_count : goal.returns-in-Err-TooLong-clause-stopped_count
returns-in-Err-TooLong-clause-stopped_count g c = λ long. rw c.in-Err-TooLong.field-0-is at c.in-Err-TooLong.ensures.kept

pub returns-in-Err-Memory-clause-stopped_count : goal.returns-in-Err-Memory-clause-stopped_count
returns-in-Err-Memory-clause-stopped_count g c = λ none. rw c.in-Err-Memory.field-0-is at c.in-Err-Memory.ensures.kept
