-- Bytes read and written.
--     Terms     a number as it is read, what storing a record leaves in an array
--     Laws      records as bytes, copies, a buffer written piece by piece (proved)
pub mod Terms
pub mod Laws
