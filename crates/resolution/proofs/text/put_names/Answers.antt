-- `put_names` meets its contract: by the form. Assumes nothing.
use Rattle.resolution.proofs.text.put_names.Goals as goal

pub returns-in-Old : goal.returns-in-Old
returns-in-Old c = record { wrote = rw c.in-Old.is c.put_bytes.ensures.wrote }

pub returns-in-Kinds : goal.returns-in-Kinds
returns-in-Kinds c = record { wrote = rw c.in-Kinds.is c.put_bytes-in-Kinds.ensures.wrote }
