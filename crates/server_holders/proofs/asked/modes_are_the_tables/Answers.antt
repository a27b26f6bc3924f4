use Rattle.server_holders.proofs.Grants.{at_holder, writer_there}
use Rattle.server_holders.proofs.Same.{writes_here, reads_here, recalled_here}
use Rattle.server_holders.proofs.asked.modes_are_the_tables.Goals as goal

pub returns-clause-held : goal.returns-clause-held
returns-clause-held c held marks s client ino stands = at_holder held marks s.holders stands client ino

pub returns-clause-writer : goal.returns-clause-writer
returns-clause-writer c held marks s client ino stands = writer_there held marks s.holders stands client ino

pub returns-clause-may_write : goal.returns-clause-may_write
returns-clause-may_write c held marks s client ino tab stands = writes_here held marks s stands client ino tab

pub returns-clause-reads : goal.returns-clause-reads
returns-clause-reads c held marks s client ino tab stands = reads_here held marks s stands client ino tab

pub returns-clause-recalled : goal.returns-clause-recalled
returns-clause-recalled c held marks s client ino stands = recalled_here held marks s stands client ino
