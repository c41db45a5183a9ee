-- What this crate defines, by folder, one a module.
-- certificates: Given has partly given arguments, Texts their strings, KnownImage an image loaded with them, Certified
--   the answer of `certify`, Promised what a certificate promises.
-- certificate_explanations: Explained has what is printed below `may differ at K`, Places which argument an address is
--   in, Standing where loads stand.
-- pair_explanations: what is printed below `differ at K`. image_pictures: Drawn has which page is the picture of an
--   image's runs, Telling what goes out while it is made.
-- vectors: Lines has files of vectors, Verdicts what is printed for each, Texts, Spelled and Views their parts.
-- source_places: in which of several files that are one source a place of it stands.
-- statistics, image_statistics, source_statistics: the lines of `stat`: of an image's fields, of an image, of a source.
pub mod certificates
pub mod certificate_explanations
pub mod image_pictures
pub mod pair_explanations
pub mod statistics
pub mod image_statistics
pub mod source_places
pub mod source_statistics
pub mod vectors
pub mod Below
