mod Cutting
mod Rows
