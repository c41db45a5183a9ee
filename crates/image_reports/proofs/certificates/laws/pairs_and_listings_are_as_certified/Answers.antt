use Rattle.image_reports.proofs.certificates_lemmas.CertificateLaws.{pairs_same, pairs_differ_late, listings_same}
use Rattle.image_reports.proofs.certificates.laws.pairs_and_listings_are_as_certified.Goals as goal

pub returns-clause-pairs : goal.returns-clause-pairs
returns-clause-pairs c = pairs_same

pub returns-clause-listings : goal.returns-clause-listings
returns-clause-listings c = listings_same

pub returns-clause-differ : goal.returns-clause-differ
returns-clause-differ c = pairs_differ_late
