-- The laws of the burn file.
use Rattle.burn.specs.Files.{contents, FileLaws}
use Rattle.burn.proofs.Accepted.{accepted_only}
use Rattle.burn.proofs.RoundTrip.{written_loads, refused_alike}

pub file_laws : FileLaws
file_laws = record { written_loads = λ s t. written_loads (contents s) t s.kept; accepted_only = accepted_only; refused_alike = refused_alike }
