use Rattle.study_documents.proofs.Whole.{fault_members, fault_read, fault_whole, whole_read, whole_text}
use Rattle.study_documents.proofs.laws.documents_are_read_back.Goals as goal

pub returns-clause-text : goal.returns-clause-text
returns-clause-text c = whole_text

pub returns-clause-fault_text : goal.returns-clause-fault_text
returns-clause-fault_text c = fault_whole

pub returns-clause-members : goal.returns-clause-members
returns-clause-members c = fault_members

pub returns-clause-read : goal.returns-clause-read
returns-clause-read c = whole_read c.json_is_read_back.ensures.read

pub returns-clause-fault_read : goal.returns-clause-fault_read
returns-clause-fault_read c = fault_read c.json_is_read_back.ensures.read
