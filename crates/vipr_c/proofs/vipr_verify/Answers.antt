-- `vipr_c::vipr_verify` meets its contract: what is replied is what `verification_says` says of the answer.
use Rattle.vipr_c.proofs.CertificateLaws.{verify_line, verify_returned}
use Rattle.vipr_c.proofs.vipr_verify.Goals as goal

pub reply-requires : goal.reply-requires
reply-requires c = verify_line c.verify.ensures

pub returns : goal.returns
returns c = verify_returned c.verify.ensures c.reply.ensures
