use Rattle.image_reports.proofs.certificates_lemmas.CertificateLaws.{all_show, all_shift, all_begin}
use Rattle.image_reports.proofs.certificates.laws.certificates_hold.Goals as goal

pub returns-clause-same : goal.returns-clause-same
returns-clause-same c = all_show

pub returns-clause-amounts : goal.returns-clause-amounts
returns-clause-amounts c = all_shift

pub returns-clause-may_differ : goal.returns-clause-may_differ
returns-clause-may_differ c = all_begin
