use Rattle.image_reports.proofs.certificates_lemmas.CertificateLaws.{one_certification}
use Rattle.image_reports.proofs.certificates.laws.certifications_agree.Goals as goal

pub returns : goal.returns
returns c = one_certification
