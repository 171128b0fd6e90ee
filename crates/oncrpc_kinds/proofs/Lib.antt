mod Procedures
