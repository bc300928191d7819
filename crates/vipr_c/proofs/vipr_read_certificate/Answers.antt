-- `vipr_c::vipr_read_certificate` meets its contract: what is replied is what `reading_says` says of the answer.
use Rattle.vipr_c.proofs.CertificateLaws.{read-line, read_returned}
use Rattle.vipr_c.proofs.vipr_read_certificate.Goals as goal

pub reply-requires : goal.reply-requires
reply-requires c = read-line c.read_certificate.ensures

pub returns : goal.returns
returns c = read_returned c.read_certificate.ensures c.reply.ensures
