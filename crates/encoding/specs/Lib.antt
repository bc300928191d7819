-- What a reader has to believe of certificates in tables, in reading order: where each part of a certificate is looked for; the
-- relation between a certificate and the tables that encode it; the tables that reading leaves. Then what is proved of them.
pub mod Places
pub mod Encodes
pub mod Held
pub mod Rows
pub mod Claims
pub mod HeldPairs
pub mod HeldReasons
