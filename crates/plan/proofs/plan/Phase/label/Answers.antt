-- Assumes nothing.
use Rattle.plan.proofs.plan.Phase.label.Goals as goal

pub returns-in-Fetch : goal.returns-in-Fetch
returns-in-Fetch c = rw c.in-Fetch.is c.from_bytes.ensures

pub returns-in-Decode : goal.returns-in-Decode
returns-in-Decode c = rw c.in-Decode.is c.from_bytes-in-Decode.ensures

pub returns-in-Execute : goal.returns-in-Execute
returns-in-Execute c = rw c.in-Execute.is c.from_bytes-in-Execute.ensures

pub returns-in-Halt : goal.returns-in-Halt
returns-in-Halt c = rw c.in-Halt.is c.from_bytes-in-Halt.ensures
